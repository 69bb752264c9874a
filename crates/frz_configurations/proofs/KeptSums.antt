-- How what is kept is filled, and read as a sum.
use Rattle.std.proofs.Common.{◌≡◌, ℕ, ◌+◌, ◌<◌, List, get_or, length, map, slice_index, slice_index_or, slice_set, ap, sym, ◌∙◌, subst, arith, inl, inr}
use Rattle.std.proofs.lemmas.Bool.{cases_eq}
use Rattle.std.proofs.lemmas.List.{get_or_default, get_or-set_other, get_or-set_same}
use Rattle.std.proofs.lemmas.Nat.{mul-le}
use Rattle.frz_board.specs.declared.man.Colour.TheVariants.{White, Black}
use Rattle.frz_combinations.specs.MixedRadix.{product}
use Rattle.frz_sets.specs.Sets.{radix_of, size_of, targets}
use Rattle.frz_sets.specs.Sound.{IsSound}
use Rattle.frz_sets.specs.Views.{RuleLines}
use Rattle.frz_index.proofs.Lemmas.{numberable, product_some}
use Rattle.frz_configurations.specs.Configurations.{IsSplit, configuration_count}
use Rattle.frz_configurations.specs.Joined.{IsKingSquare}
use Rattle.frz_configurations.specs.Shares.{AreShares}
use Rattle.frz_configurations.proofs.AnySplit.{any_split}
use Rattle.frz_configurations.proofs.OtherDigits.{number_below}

pub size_some : (r : RuleLines) → IsSound r → 0 < size_of r.groups
size_some r sound =
    let gs = r.groups in
    omega (
      arith,
      mul-le 1 1 (2 + length (targets gs)) (product (map radix_of gs)) (omega arith)
          (product_some gs (numberable r sound).groups),
    )

-- one number more is set
pub set_more : (P : ℕ → ℕ → Type 0) (xs : List ℕ) (k x : ℕ) → k < length xs →
    ((s : ℕ) → s < k → P s (slice_index xs s)) → P k x → (s : ℕ) → s < k + 1 →
    P s (slice_index (slice_set xs k x) s)
set_more P xs k x inside h here s l =
    elim (cases_eq s k) [
      | inl e ↦ subst (λ j. P j (slice_index (slice_set xs k x) j)) (sym e)
          (subst (P k) (sym (get_or-set_same xs k x 0 inside)) here)
      | inr ne ↦ subst (P s) (sym (get_or-set_other xs k s x 0 ne)) (h s (omega arith))
    ]

-- what was read adds up to the number
pub record IsSum (r : RuleLines) (c a b i : ℕ) : Type 0 where
  pub split : IsSplit r.groups i c a b
  pub fits : i < 134217728

pub sum_read : (r : RuleLines) (configurations white black : List ℕ) (c a b x m n : ℕ) → IsSound r →
    AreShares r.groups configurations white black → c < configuration_count r.groups →
    IsKingSquare r.groups White a → IsKingSquare r.groups Black b → m ≡ a → n ≡ b → m < 64 →
    n < 64 → x ≡ get_or configurations c x →
    IsSum r c a b (x + slice_index_or white m 0 + slice_index_or black n 0)
sum_read r configurations white black c a b x m n sound known inside on_white on_black em en lm ln
    read =
    let gs = r.groups in
    let any = any_split r c a b sound inside on_white on_black in
    let sum = known.sum any.number c a b (omega (arith, em, lm)) (omega (arith, en, ln)) any.split in
    let low : c < length configurations = omega (arith, known.size, inside) in
    let first : slice_index configurations c ≡ x =
    sym (read ∙ get_or_default configurations c x 0 low) in
    let is : any.number ≡ x + slice_index_or white m 0 + slice_index_or black n 0 = sum
    ∙ ap (λ y. y + slice_index white a + slice_index black b) first
    ∙ ap (λ s. x + slice_index white s + slice_index black b) (sym em)
    ∙ ap (λ s. x + slice_index white m + slice_index black s) (sym en) in
    record {
      split = subst (λ i. IsSplit gs i c a b) is any.split;
      fits = omega (arith, number_below gs any.number c a b any.split, sound.size, is);
    }
