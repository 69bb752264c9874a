-- What `line TABLE FEN SIDE` is to do.
use Rattle.std.specs.Prelude.{ℕ, List}
use Rattle.frz_board.specs.declared.man.Colour.{Colour}
use Rattle.frz_board.specs.Boards.{Board}
use Rattle.frz_store.specs.Files.{Files}
use Rattle.frz_answer.specs.Jobs.{Job}
use Rattle.frz_ways.specs.declared.opponent.Opponent.TheVariants.{Codes}
use Rattle.frz_commands_line.specs.WayJobs.{way_at, way_words}

-- the line by the table of this name: the codes find the moves of both sides
abbrev pub lining_at : (later : ℕ → Files) → List ℕ → Colour → Board → Job
lining_at later table side p = way_at Codes later table side p

-- line TABLE FEN SIDE
abbrev pub line_words : (later : ℕ → Files) → List (List ℕ) → Job
line_words later words = way_words Codes later words
