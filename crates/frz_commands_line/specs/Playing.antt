-- What `play TABLE FEN SIDE` is to do.
use Rattle.std.specs.Prelude.{ℕ, List}
use Rattle.frz_board.specs.declared.man.Colour.{Colour}
use Rattle.frz_board.specs.Boards.{Board}
use Rattle.frz_store.specs.Files.{Files}
use Rattle.frz_answer.specs.Jobs.{Job}
use Rattle.frz_ways.specs.declared.opponent.Opponent.TheVariants.{Input}
use Rattle.frz_commands_line.specs.WayJobs.{way_at, way_words}

-- the session by the table of this name: the input says the opponent's moves
abbrev pub playing_at : (later : ℕ → Files) → List ℕ → Colour → Board → Job
playing_at later table side p = way_at Input later table side p

-- play TABLE FEN SIDE
abbrev pub play_words : (later : ℕ → Files) → List (List ℕ) → Job
play_words later words = way_words Input later words
