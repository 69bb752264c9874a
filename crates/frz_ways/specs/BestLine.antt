-- What the best line from a position of a set writes.
use Rattle.std.specs.Prelude.{◌≡◌, ℕ, List, ◌++◌, Result, slice_index}
use Rattle.frz_board.specs.declared.man.Colour.{Colour}
use Rattle.frz_board.specs.Boards.{Board}
use Rattle.frz_sets.specs.Views.{RuleLines}
use Rattle.frz_arena.specs.declared.arm.Next.TheVariants.{Inside}
use Rattle.frz_answer.specs.World.{Spent}
use Rattle.frz_exits.specs.Books.{value_by}
use Rattle.frz_game.specs.Games.{graph_by}
use Rattle.frz_index.specs.Members.{Member, Num}
use Rattle.frz_ways.specs.declared.end.LineEnd.{LineEnd}
use Rattle.frz_ways.specs.declared.end.LineFault.{LineFault}
use Rattle.frz_ways.specs.Costs.{way_numbers, SpendsAt}
use Rattle.frz_ways.specs.Ends.{told, Finishes}
use Rattle.frz_ways.specs.Lines.{LinePly, EndOfLine, IsLine}
use Rattle.frz_ways.specs.Texts.{line_text}

-- the text begins the text of the line from the position's number, and is all of it where the
-- line's end is answered. At most, the code of the start is read once, and at each number that the
-- line comes to, the moves are listed once, and the code of each that stays inside is read once
abbrev pub TellsLine : RuleLines → Colour → (codes : ℕ → List ℕ) → Board → (text : List ℕ) →
    Result LineEnd LineFault →
    (before now : Spent) → Type 0
TellsLine rules side codes p text result before now =
    Member rules.groups p →
    (plies : List LinePly) (end : EndOfLine) →
    IsLine rules (value_by rules) side codes (Num rules.groups p) plies end →
    (rest : List ℕ)
    × (text ++ rest ≡ line_text side (slice_index (codes 0) (Num rules.groups p)) plies
    (told side end))
    × Finishes result (told side end) rest
    × SpendsAt (graph_by rules (value_by rules)) 1
    (way_numbers (Inside (0, Num rules.groups p)) plies)
    before now
