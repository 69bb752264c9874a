-- Selections and their numbers, both ways.
use Rattle.std.proofs.Common.{◌≡◌, ℕ, zero, suc, ◌+◌, ◌-◌, ◌<◌, ◌≤◌, Bool, true, false, List, length, ap, sym, ◌∙◌, subst, arith, cond}
use Rattle.std.specs.Prelude.{nat_lt}
use Rattle.std.proofs.lemmas.Bool.Decides.{nat_tests}
use Rattle.frz_combinations.specs.Binomials.{choose}
use Rattle.frz_combinations.specs.Combinations.{AreDescending, rank, unrank}
use Rattle.frz_combinations.specs.Selections.{choices, count_and_rank, digit, radix, selection_at}
use Rattle.frz_combinations.proofs.Ranking.{rank_below, unrank-rank}

count_and_rank_at : (s l n r : ℕ) (b : Bool) → nat_lt r (choose s l) ≡ b →
    count_and_rank s l (suc n) r ≡ cond b (l, r) (count_and_rank s (suc l) n (r - choose s l))
count_and_rank_at s l n r b e =
    ap (λ b. cond b (l, r) (count_and_rank s (suc l) n (r - choose s l))) e

-- the number of men is found again: d more than the least, of n that may be more
pub men_found : (s l n d x : ℕ) → d ≤ n → x < choose s (l + d) →
    count_and_rank s l n (choices s l d + x) ≡ (l + d, x)
men_found s l zero zero x h k = ap (λ r. (l, r)) (omega arith) ∙ ap (λ j. (j, x)) (omega arith)
men_found s l zero (suc d) x h k = absurd (omega arith)
men_found s l (suc n) zero x h k =
    let e : l + 0 ≡ l = omega arith in
    let k' : x < choose s l = subst (λ j. x < choose s j) e k in
    count_and_rank_at s l n (0 + x) true (grind (arith, nat_tests)) ∙ ap (λ r. (l, r)) (omega arith)
    ∙ ap (λ j. (j, x)) (omega arith)
men_found s l (suc n) (suc d) x h k =
    let e : l + suc d ≡ suc l + d = omega arith in
    let k' : x < choose s (suc l + d) = subst (λ j. x < choose s j) e k in
    let r : choose s l + choices s (suc l) d + x - choose s l ≡ choices s (suc l) d + x =
    omega arith in
    count_and_rank_at s l n (choose s l + choices s (suc l) d + x) false (grind (arith, nat_tests))
    ∙ ap (count_and_rank s (suc l) n) r ∙ men_found s (suc l) n d x (omega arith) k'
    ∙ ap (λ j. (j, x)) (sym e)

-- the number of a selection with l + d places is below the sum for n more, where d is at most n
pub choices_below : (s l n d x : ℕ) → d ≤ n → x < choose s (l + d) →
    choices s l d + x < choices s l (suc n)
choices_below s l n zero x h k =
    let e : l + 0 ≡ l = omega arith in
    let k' : x < choose s l = subst (λ j. x < choose s j) e k in
    omega arith
choices_below s l zero (suc d) x h k = absurd (omega arith)
choices_below s l (suc n) (suc d) x h k =
    let e : l + suc d ≡ suc l + d = omega arith in
    let k' : x < choose s (suc l + d) = subst (λ j. x < choose s j) e k in
    omega (arith, choices_below s (suc l) n d x (omega arith) k')

-- a digit is below its radix
pub digit_below : (s l m : ℕ) (cs : List ℕ) → AreDescending s cs → l ≤ length cs → length cs ≤ m →
    digit s l cs < radix s l m
digit_below s l m cs h lo hi =
    let e : l + (length cs - l) ≡ length cs = omega arith in
    choices_below s l (m - l) (length cs - l) (rank cs) (omega arith)
    (subst (λ j. rank cs < choose s j) (sym e) (rank_below s cs h))

-- the places are those of their digit
pub selection_at-digit : (s l m : ℕ) (cs : List ℕ) → AreDescending s cs → l ≤ length cs →
    length cs ≤ m → selection_at s l m (digit s l cs) ≡ cs
selection_at-digit s l m cs h lo hi =
    let e : l + (length cs - l) ≡ length cs = omega arith in
    let found = men_found s l (m - l) (length cs - l) (rank cs) (omega arith)
    (subst (λ j. rank cs < choose s j) (sym e) (rank_below s cs h)) in
    ap (λ (x : ℕ × ℕ). unrank s x.0 x.1) found ∙ ap (λ j. unrank s j (rank cs)) e
    ∙ unrank-rank s cs h
