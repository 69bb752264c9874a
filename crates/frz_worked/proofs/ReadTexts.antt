-- The rules of a text, opened for computing: a proof over a text names this and the text alone.
use Rattle.std.specs.Prelude.{◌≡◌, ℕ, List, Result, Ok}
use Rattle.frz_board.specs.Squares.{squares}
use Rattle.frz_combinations.specs.Binomials.{choose}
use Rattle.frz_rules.specs.declared.fault.RulesFault.{RulesFault}
use Rattle.frz_rules.specs.Grammar.{line_form}
use Rattle.frz_rules.specs.Lines.{group_of, forbid_of, exit_of}
use Rattle.frz_rules.specs.States.{states_of}
use Rattle.frz_rules.specs.Text.{line_of, rules_of}
use Rattle.frz_sets.specs.Views.{RuleLines}
use Rattle.frz_squares.specs.SquareSets.{set_of}
use Rattle.frz_words.specs.Numbers.{number_of}
use Rattle.frz_words.specs.Squares.{squares_of, is_square_of}
use Rattle.frz_words.specs.Words.{words}

-- what reads the words, the numbers and the squares of a line
unfoldable pub line_words : List ℕ → List (List ℕ)
unfolding words number_of squares_of is_square_of squares set_of choose
line_words line = words line

unfoldable pub read_text : List ℕ → Result RuleLines RulesFault
unfolding line_words rules_of line_of group_of forbid_of exit_of line_form states_of
read_text text = rules_of text

-- one result holds one value
pub same_rules : (r : Result RuleLines RulesFault) (x y : RuleLines) → r ≡ Ok x → r ≡ Ok y → x ≡ y
same_rules r x y e h = cc
