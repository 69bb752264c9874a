-- What it means that a line or a table decided the value of a position.
use Rattle.std.specs.Prelude.{◌≡◌, ◌+◌, ℕ, Bool, List, Some, None, slice_get}
use Rattle.frz_board.specs.Boards.{Board}
use Rattle.frz_sets.specs.declared.exit.Value.{Value}
use Rattle.frz_sets.specs.declared.exit.Value.TheVariants.{Unknown}
use Rattle.frz_sets.specs.Views.{ExitLine, RuleLines}
use Rattle.frz_exits.specs.Books.{value_by}
use Rattle.frz_backs.specs.Books.{Back}
use Rattle.frz_backs.specs.Counts.{counts_of}
use Rattle.frz_backs.specs.Lines.{line_over}
use Rattle.frz_backs.specs.Values.{back_value}
use Rattle.frz_exit_lines.specs.Saying.{exit_on_line}
use Rattle.frz_commands_why.specs.Deciders.{asked_back, back_at}
use Rattle.frz_commands_why.specs.declared.decider.Decider.{Decider}
use Rattle.frz_commands_why.specs.declared.decider.Decider.TheVariants.{Line, Behind, NoLine}

-- the decider of a position with this value, by the rules of this text with these tables behind
-- their exit lines, where the text leans on them
pub data Decides (leans : Bool) (text : List ℕ) (rules : RuleLines) (backs : List Back) (q : Board)
    (value : Value) : Decider → Type 0 where
  -- no table is asked, or none holds the position. The line says this value, and stands under this
  -- number: it is the first that fits or, where those before the tables say nothing, the first
  -- behind them
  line : (k n : ℕ) (fits : ExitLine) → line_over leans rules backs q ≡ Some k →
      slice_get rules.exits k ≡ Some fits → exit_on_line text n ≡ Some fits →
      value ≡ fits.value → asked_back leans rules backs q ≡ None →
      Decides leans text rules backs q value (Line n)
  -- the lines say nothing, and this table is the first whose set holds the position: it tells this
  -- value
  behind : (k : ℕ) (back : Back) → value_by rules q ≡ Unknown → back_at backs q ≡ Some k →
      slice_get backs k ≡ Some back → value ≡ back_value (counts_of backs) back q →
      Decides leans text rules backs q value (Behind (k + 1))
  -- no line gives a value, and no table's set holds the position, whose value is unknown
  none : line_over leans rules backs q ≡ None → asked_back leans rules backs q ≡ None →
      value ≡ Unknown → Decides leans text rules backs q value NoLine
