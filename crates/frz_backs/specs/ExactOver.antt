-- Outcomes of chess in a table over several others.
use Rattle.std.specs.Prelude.{ℕ, List, All}
use Rattle.frz_board.specs.Boards.{Board}
use Rattle.frz_board.specs.declared.man.Colour.{Colour}
use Rattle.frz_sets.specs.declared.exit.Value.{Value}
use Rattle.frz_sets.specs.declared.exit.Value.TheVariants.{WhiteWins, BlackWins, WhiteWinsIn, BlackWinsIn}
use Rattle.frz_sets.specs.Views.{RuleLines}
use Rattle.frz_chain.specs.ExactTables.{HasExactOutcomes, HasNoForbid}
use Rattle.frz_chain.specs.Values.{AreTrueExits}
use Rattle.frz_backs.specs.Decided.{AreLinesOrTables, HasBothOutcomes}
use Rattle.frz_backs.specs.Links.{Link, backs_of}
use Rattle.frz_backs.specs.Values.{own_value}

-- the value without its plies
abbrev pub outcome_of : Value → Value
outcome_of (WhiteWinsIn n) = WhiteWins
outcome_of (BlackWinsIn n) = BlackWins
outcome_of value = value

-- what the values outside the set say of the outcome is true
abbrev pub AreTrueOutcomes : RuleLines → (Board → Value) → Type 0
AreTrueOutcomes rules value = AreTrueExits rules (λ q. outcome_of (value q))

-- the outcomes of the side's codes are those of chess under three conditions. No line forbids the
-- side a move. Each way out of the set is decided by an exit line, and these are true, or lies in
-- the set of a table behind. The outcomes in all these tables are those of chess
abbrev pub HasOutcomesOver : RuleLines → List Link → Colour → List ℕ → Type 0
HasOutcomesOver rules links side codes =
    HasNoForbid rules side → AreTrueOutcomes rules (own_value rules (backs_of links)) →
    AreLinesOrTables rules links → All HasBothOutcomes links → HasExactOutcomes rules side codes
