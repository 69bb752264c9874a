-- Verdicts by the values of exits that a table of its kind has.
use Rattle.std.proofs.Common.{◌≡◌, refl, subst, ℕ, List, map}
use Rattle.frz_board.specs.declared.man.Colour.{Colour}
use Rattle.frz_sets.specs.Views.{RuleLines}
use Rattle.frz_check.specs.Books.{value_by}
use Rattle.frz_table.specs.declared.kind.FileKind.{FileKind}
use Rattle.frz_table.specs.declared.kind.FileKind.TheVariants.{Plain, Chained, Atlas}
use Rattle.frz_check.specs.declared.verdict.Verdict.{Verdict}
use Rattle.frz_check.specs.Verdicts.{IsVerdict}
use Rattle.frz_backs.specs.Books.{Back}
use Rattle.frz_backs.specs.FileOn.{loaded_back}
use Rattle.frz_backs.specs.BackTable.{BackTable}
use Rattle.frz_backs.specs.Links.{value_over}
use Rattle.frz_backs.specs.Loaded.{leans_as}
use Rattle.frz_backs.specs.Values.{atlas_value}

-- by a book of tables, where the kind is one that leans on them
pub moved_leaning : (kind : FileKind) (r s : RuleLines) (a b : List BackTable)
    (codes : Colour → List ℕ) (v : Verdict) → Atlas ≡ kind → r ≡ s → a ≡ b
    → IsVerdict s (λ q. atlas_value r (map loaded_back a) q) codes v
    → IsVerdict s (value_over (leans_as kind) s (map loaded_back b)) codes v
moved_leaning kind r s a b codes v is rules backs h =
    subst (λ (k : FileKind). IsVerdict s (value_over (leans_as k) s (map loaded_back b)) codes v) is
    (subst (λ (l : List BackTable). IsVerdict s (λ q. atlas_value s (map loaded_back l) q) codes v)
    backs
    (subst (λ (x : RuleLines). IsVerdict s (λ q. atlas_value x (map loaded_back a) q) codes v)
    rules h))

-- by exit lines alone, where it does not
pub moved_plain : (kind : FileKind) (r s : RuleLines) (before : List Back)
    (codes : Colour → List ℕ) (v : Verdict) → (kind ≡ Atlas → ⊥) → r ≡ s
    → IsVerdict s (λ q. value_by r q) codes v
    → IsVerdict s (value_over (leans_as kind) s before) codes v
moved_plain Plain r s before codes v other rules h =
    subst (λ (x : RuleLines). IsVerdict s (λ q. value_by x q) codes v) rules h
moved_plain Chained r s before codes v other rules h =
    subst (λ (x : RuleLines). IsVerdict s (λ q. value_by x q) codes v) rules h
moved_plain Atlas r s before codes v other rules h = absurd (other refl)
