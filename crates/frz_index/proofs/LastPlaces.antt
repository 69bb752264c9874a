-- The last place of a combination, found from its rank.
use Rattle.std.proofs.Common.{◌≡◌, ℕ, zero, suc, ◌-◌, ◌<◌, ◌≤◌, min, [], ◌∷◌, refl, ap, sym, ◌∙◌, arith, inr}
use Rattle.frz_combinations.specs.Binomials.{choose}
use Rattle.frz_combinations.specs.Combinations.{unrank}
use Rattle.frz_combinations.proofs.Lemmas.{choose-one, choose-past, choose_wider}
use Rattle.frz_combinations.proofs.Lemmas.{unrank-greatest}
use Rattle.frz_index.proofs.GroupDigits.{unrank_done}

-- the rank of one place is the place
pub one_fits : (end k r m : ℕ) → k ≡ 1 → m ≡ min r (end - 1) → choose m k ≤ r
one_fits end k r m one e = omega (arith, ap (choose m) one, choose-one m, e)

pub one_greatest : (end k r m : ℕ) → k ≡ 1 → m ≡ min r (end - 1) → (x : ℕ) → m < x → x < end →
    r < choose x k
one_greatest end k r m one e x h l = omega (arith, ap (choose x) one, choose-one x, e)

-- there is always a place that fits
pub first_fits : (k r : ℕ) → 0 < k → choose 0 k ≤ r
first_fits k r h = omega (arith, choose-past 0 k h)

-- what is above one place's binomial is above those of later places
pub above_later : (end k r m : ℕ) → r < choose m k → (x : ℕ) → m ≤ x → x < end → r < choose x k
above_later end k r m h x l k' = omega (arith, choose_wider m x k l)

-- the greatest place that fits is the last, and the others are those of what is left
pub unrank_next : (s k r c : ℕ) → 0 < k → c < s → choose c k ≤ r →
    ((x : ℕ) → c < x → x < s → r < choose x k) →
    unrank s k r ≡ c ∷ unrank c (k - 1) (r - choose c k)
unrank_next s zero r c h l fits above = absurd (omega arith)
unrank_next s (suc j) r c h l fits above =
    let e : suc j - 1 ≡ j = omega arith in
    unrank-greatest s j r c l fits above ∙ ap (λ i. c ∷ unrank c i (r - choose c (suc j))) (sym e)

-- so the combination of one place is the place of its rank, or the last
pub one_place : (s r c : ℕ) → 0 < s → c ≡ min r (s - 1) → unrank s 1 r ≡ c ∷ []
one_place s r c some e =
    unrank_next s 1 r c (omega arith) (omega arith) (one_fits s 1 r c refl e)
    (one_greatest s 1 r c refl e)
    ∙ ap (λ ks. c ∷ ks) (unrank_done c 0 (r - choose c 1) (inr refl))
