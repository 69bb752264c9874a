-- The size in the former format: products of radices that are kept within 64 bits.
use Rattle.std.proofs.Common.{◌≡◌, ℕ, ◌+◌, ◌*◌, ◌^◌, ◌<◌, ◌≤◌, List, [], ◌∷◌, drop, length, get_or, ap, sym, ◌∙◌, arith}
use Rattle.std.specs.List.{flat_map}
use Rattle.std.proofs.lemmas.List.FromFn.{map-range_with_len_more}
use Rattle.frz_combinations.proofs.Lemmas.{product-append}
use Rattle.frz_combinations.specs.Binomials.{capped}
use Rattle.frz_combinations.specs.MixedRadix.{product}
use Rattle.frz_sets.proofs.Lemmas.{capped_times}
use Rattle.frz_sets.specs.Sets.{targets}
use Rattle.frz_sets.specs.Views.{GroupLine}
use Rattle.frz_index.proofs.GroupSteps.{drop_end, drop_read}
use Rattle.frz_index.specs.OldDigits.{radices_from}
use Rattle.frz_index.specs.OldNumbers.{old_radices, old_radix, old_size_of}

-- the radices of the first k digits of a group
pub product_more : (s l k so_far r next : ℕ) → so_far ≡ capped (product (radices_from s l 0 k)) →
    r ≡ old_radix s l k → next ≡ capped (so_far * r) →
    next ≡ capped (product (radices_from s l 0 (k + 1)))
product_more s l k so_far r next e er en =
    let first = radices_from s l 0 k in
    let radix = old_radix s l k in
    let one : product first * (radix * 1) ≡ product first * radix = omega arith in
    en ∙ ap (λ x. capped (x * r)) e ∙ capped_times (product first) r
    ∙ ap (λ x. capped (product first * x)) er
    ∙ sym (ap (λ rs. capped (product rs))
    (map-range_with_len_more (old_radix s l) 0 k k (omega arith))
    ∙ ap capped (product-append first (radix ∷ []) ∙ one))

pub product_end : (g : GroupLine) (s k so_far : ℕ) → s ≡ length g.states → k ≡ g.most →
    so_far ≡ capped (product (radices_from s g.least 0 k)) →
    so_far ≡ capped (product (old_radices g))
product_end g s k so_far es ek e =
    e ∙ ap (λ x. capped (product (radices_from x g.least 0 k))) es
    ∙ ap (λ n. capped (product (radices_from (length g.states) g.least 0 n))) ek

times_step : (t r n p rest : ℕ) → r ≡ capped p → n ≡ capped (t * r) →
    capped (n * rest) ≡ capped (t * (p * rest))
times_step t r n p rest er en =
    let inward : t * capped p * rest ≡ capped p * (t * rest) = grind arith in
    let outward : p * (t * rest) ≡ t * (p * rest) = grind arith in
    ap (λ x. capped (x * rest)) en ∙ capped_times (t * r) rest
    ∙ ap (λ x. capped (t * x * rest)) er ∙ ap capped inward
    ∙ capped_times p (t * rest) ∙ ap capped outward

-- the turn states times the radices of the first i groups make this number
pub record OldTimes (gs : List GroupLine) (i total : ℕ) : Type 0 where
  pub fits : total < 2 ^ 64
  pub same : capped (total * product (flat_map old_radices (drop i gs))) ≡ capped (old_size_of gs)

pub times_start : (gs : List GroupLine) (n : ℕ) → n ≡ length (targets gs) → n ≤ 64 →
    OldTimes gs 0 (2 + n)
unfolding old_size_of
times_start gs n e h =
    record {
      fits = omega arith;
      same = ap (λ n. capped ((2 + n) * product (flat_map old_radices gs))) e;
    }

pub times_more : (gs : List GroupLine) (i total r next : ℕ) (g : GroupLine) → i < length gs →
    g ≡ get_or gs i g → OldTimes gs i total → r ≡ capped (product (old_radices g)) →
    next ≡ capped (total * r) → OldTimes gs (i + 1) next
times_more gs i total r next g low e h er en =
    let rest = flat_map old_radices (drop (i + 1) gs) in
    record {
      fits = omega arith;
      same =
          times_step total r next (product (old_radices g)) (product rest) er en
          ∙ ap (λ x. capped (total * x)) (sym (product-append (old_radices g) rest))
          ∙ sym (ap (λ xs. capped (total * product (flat_map old_radices xs)))
          (drop_read gs i g low e))
          ∙ h.same;
    }

pub times_end : (gs : List GroupLine) (i total : ℕ) → length gs ≤ i → OldTimes gs i total →
    total ≡ capped (old_size_of gs)
times_end gs i total past h =
    let one : total ≡ capped (total * 1) = (let f = h.fits in omega arith) in
    one ∙ sym (ap (λ xs. capped (total * product (flat_map old_radices xs))) (drop_end gs i past))
    ∙ h.same
