-- What holds by the values of the book of a kind of table.
use Rattle.std.proofs.Common.{◌≡◌, refl, subst, List}
use Rattle.frz_board.specs.Boards.{Board}
use Rattle.frz_sets.specs.declared.exit.Value.{Value}
use Rattle.frz_sets.specs.Views.{RuleLines}
use Rattle.frz_exits.specs.Books.{value_by}
use Rattle.frz_table.specs.declared.kind.FileKind.{FileKind}
use Rattle.frz_table.specs.declared.kind.FileKind.TheVariants.{Plain, Chained, Atlas}
use Rattle.frz_atlas.specs.Books.{Back}
use Rattle.frz_atlas.specs.Links.{value_over}
use Rattle.frz_atlas.specs.Loaded.{leans_as}
use Rattle.frz_atlas.specs.Values.{atlas_value}

module _ (P : (Board → Value) → Type 0) (kind : FileKind) (r s : RuleLines) (b : List Back) where
  -- by a book of tables, where the kind is one that leans on them
  pub by_tables : (a : List Back) → Atlas ≡ kind → r ≡ s → a ≡ b → P (λ q. atlas_value r a q)
      → P (value_over (leans_as kind) s b)
  by_tables a is rules backs h =
      subst (λ (k : FileKind). P (value_over (leans_as k) s b)) is
      (subst (λ (l : List Back). P (λ q. atlas_value s l q)) backs
      (subst (λ (x : RuleLines). P (λ q. atlas_value x a q)) rules h))

  -- by exit lines alone, where it does not
  pub by_lines : (kind ≡ Atlas → ⊥) → r ≡ s → P (λ q. value_by r q)
      → P (value_over (leans_as kind) s b)
  by_lines other rules h = by_kind kind other
    where
      by_kind : (k : FileKind) → (k ≡ Atlas → ⊥) → P (value_over (leans_as k) s b)
      by_kind Plain other = subst (λ (x : RuleLines). P (λ q. value_by x q)) rules h
      by_kind Chained other = subst (λ (x : RuleLines). P (λ q. value_by x q)) rules h
      by_kind Atlas other = absurd (other refl)
