-- Worked texts whose exit lines are true by the men, or that have none.
use Rattle.std.proofs.Common.{◌≡◌, ℕ, Bool, true, false, List, refl}
use Rattle.std.specs.Prelude.{Result, Ok, Err}
use Rattle.frz_exits.specs.Books.{value_by}
use Rattle.frz_rules.specs.declared.fault.RulesFault.{RulesFault}
use Rattle.frz_rules.specs.Text.{rules_of}
use Rattle.frz_sets.specs.Views.{RuleLines}
use Rattle.frz_game.specs.TextsByMen.{are_true_by_men, leave_dead, leave_bare, leave_minor}
use Rattle.frz_game.proofs.Lemmas.{exits_by_men, text_by_men}
use Rattle.frz_worked.specs.FortressText.{fortress_text}
use Rattle.frz_worked.specs.RookText.{rook_text}
use Rattle.frz_worked.specs.WorkedTexts.{IsUnconditional, pawn_text, pawn_back_text, corner_text, corner_back_text, blocked_text, wall_text}
use Rattle.frz_worked.proofs.ReadTexts.{read_text}

abbrev passes : Result RuleLines RulesFault → Bool
passes (Ok rules) = are_true_by_men rules
passes (Err fault) = false

-- the test of a text, opened for computing
text_passes : List ℕ → Bool
unfolding read_text are_true_by_men leave_dead leave_bare leave_minor
text_passes text = passes (rules_of text)

read_so : (text : List ℕ) (r : Result RuleLines RulesFault) → rules_of text ≡ r →
    passes r ≡ true → IsUnconditional text
read_so text (Ok rules) e pass = record {
  rules = rules;
  accepted = e;
  exits = exits_by_men rules (value_by rules) (text_by_men rules pass);
}
read_so text (Err fault) e pass = absurd (cc)

-- a text that passes is unconditional
passing_is_unconditional : (text : List ℕ) → text_passes text ≡ true → IsUnconditional text
unfolding text_passes
passing_is_unconditional text pass = read_so text (rules_of text) refl pass

pub rook_unconditional : IsUnconditional rook_text
unfolding text_passes rook_text
rook_unconditional = passing_is_unconditional rook_text refl

pub fortress_unconditional : IsUnconditional fortress_text
unfolding text_passes fortress_text
fortress_unconditional = passing_is_unconditional fortress_text refl

pub pawn_unconditional : IsUnconditional pawn_text
unfolding text_passes pawn_text
pawn_unconditional = passing_is_unconditional pawn_text refl

pub pawn_back_unconditional : IsUnconditional pawn_back_text
unfolding text_passes pawn_back_text
pawn_back_unconditional = passing_is_unconditional pawn_back_text refl

pub corner_unconditional : IsUnconditional corner_text
unfolding text_passes corner_text
corner_unconditional = passing_is_unconditional corner_text refl

pub corner_back_unconditional : IsUnconditional corner_back_text
unfolding text_passes corner_back_text
corner_back_unconditional = passing_is_unconditional corner_back_text refl

pub blocked_unconditional : IsUnconditional blocked_text
unfolding text_passes blocked_text
blocked_unconditional = passing_is_unconditional blocked_text refl

pub wall_unconditional : IsUnconditional wall_text
unfolding text_passes wall_text
wall_unconditional = passing_is_unconditional wall_text refl
