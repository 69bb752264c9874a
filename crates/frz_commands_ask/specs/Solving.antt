-- What `solve RULES FEN` answers. No file changes.
use Rattle.std.specs.Prelude.{◌≡◌, ℕ, List, MatchResult, MatchOption, MatchBool, Result, Ok, Err, codes}
use Rattle.frz_store.specs.Files.{Files}
use Rattle.frz_answer.specs.declared.status.Status.TheVariants.{Success, Rules, Outside, Missing}
use Rattle.frz_answer.specs.Answers.{Answer, says}
use Rattle.frz_board.specs.declared.man.Colour.TheVariants.{White, Black}
use Rattle.frz_board.specs.Boards.{Board}
use Rattle.frz_sets.specs.Views.{RuleLines}
use Rattle.frz_sets.specs.declared.exit.Value.{Value}
use Rattle.frz_rules.specs.Text.{rules_of}
use Rattle.frz_arena.specs.declared.bound.Bound.{Bound}
use Rattle.frz_exits.specs.Books.{value_by}
use Rattle.frz_game.specs.Numbers.{is_member}
use Rattle.frz_game.specs.Bounds.{IsBoundAt}
use Rattle.frz_index.specs.Members.{Member}
use Rattle.frz_answer.specs.declared.fault.Fault.TheVariants.{NoMemory}
use Rattle.frz_bound_lines.specs.BoundLines.{bounds_text}
use Rattle.frz_prelude.specs.Causes.{rules_line}
use Rattle.frz_prelude.specs.declared.refused.Refused.TheVariants as refusals
use Rattle.frz_prelude.specs.declared.stop.Stop.{Stop}
use Rattle.frz_prelude.specs.declared.stop.Stop.TheVariants.{Refused, Fault}
use Rattle.frz_commands_ask.specs.declared.bounds.Bounds.{Bounds}

-- these are the bounds of both sides at the position, in the game of the rules with these values of
-- exits
pub record Solves (r : RuleLines) (value : Board → Value) (p : Board)
    (white black : Bound) : Type 0 where
  pub white_is : IsBoundAt r value White p white
  pub black_is : IsBoundAt r value Black p black

-- the result is the bounds at a position of the set, or the refusal of one outside, or memory ran
-- out
abbrev pub AreFound : RuleLines → Board → Result Bounds Stop → Type 0
AreFound r p (Ok bounds) = Member r.groups p × Solves r (value_by r) p bounds.white bounds.black
AreFound r p (Err (Refused why)) = (Member r.groups p → ⊥) × (why ≡ refusals.Outside)
AreFound r p (Err (Fault fault)) = fault ≡ NoMemory

-- the answer is the lines of the bounds of both sides
abbrev pub AreBounds : RuleLines → Board → Files → Answer → Type 0
AreBounds r p files a =
    (white : Bound) × (black : Bound) × Solves r (value_by r) p white black
    × (a ≡ says Success (bounds_text white black) files)

-- the answer for rules that were read: the bounds of the position, or that it is outside their set
abbrev pub IsSolvedBy : RuleLines → Board → Files → Answer → Type 0
IsSolvedBy r p files a = MatchBool (is_member r.groups p)
    (AreBounds r p files a)
    (a ≡ says Outside (codes "outside\n") files)

-- the answer for the text of the rules file: its first fault, or the answer by its rules
abbrev pub IsSolvedIn : List ℕ → Board → Files → Answer → Type 0
IsSolvedIn text p files a = MatchResult (rules_of text)
    (λ r. IsSolvedBy r p files a)
    (λ fault. a ≡ says Rules (rules_line fault) files)

-- the answer at a position: the rules file is missing, or it has a text
abbrev pub IsSolvedAt : Board → List ℕ → Files → Answer → Type 0
IsSolvedAt p rules files a = MatchOption (files rules)
    (a ≡ says Missing (codes "missing rules\n") files)
    (λ text. IsSolvedIn text p files a)
