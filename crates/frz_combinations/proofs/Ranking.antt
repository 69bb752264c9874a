-- Combinations and their ranks, both ways.
use Rattle.std.proofs.Common.{◌≡◌, ℕ, zero, suc, ◌+◌, ◌-◌, ◌<◌, ◌≤◌, Bool, true, false, List, [], ◌∷◌, length, refl, ap, sym, ◌∙◌, subst, arith, cond, inl, inr}
use Rattle.std.specs.Prelude.{nat_le}
use Rattle.std.proofs.lemmas.Bool.{cases_lt}
use Rattle.std.proofs.lemmas.Bool.Decides.{nat_tests}
use Rattle.frz_combinations.specs.Binomials.{choose}
use Rattle.frz_combinations.specs.Combinations.{AreDescending, IsBefore, IsRanked, places_below, rank, unrank}
use Rattle.frz_combinations.proofs.Pascals.{choose-zero, choose-suc, choose-none, choose_wider}

-- places that descend below n descend below every greater bound
pub descend_wider : (n m : ℕ) (cs : List ℕ) → n ≤ m → AreDescending n cs → AreDescending m cs
descend_wider n m [] h d = tt
descend_wider n m (c ∷ cs) h d = (omega (arith, d.0), d.1)

-- the places at which f holds do descend
pub places_descend : (f : ℕ → Bool) (n : ℕ) → AreDescending n (places_below f n)
places_descend f zero = tt
places_descend f (suc n) =
    elim (f n) as (λ b. AreDescending (suc n) (cond b (n ∷ places_below f n) (places_below f n))) [
      | true ↦ (omega arith, places_descend f n)
      | false ↦ descend_wider n (suc n) (places_below f n) (omega arith) (places_descend f n)
    ]

-- the rank of j places below s is below C(s, j)
pub rank_below : (s : ℕ) (cs : List ℕ) → AreDescending s cs → rank cs < choose s (length cs)
rank_below s [] h = omega (arith, choose-zero s)
rank_below s (c ∷ cs) h =
    omega (
      arith,
      rank_below c cs h.1,
      choose-suc c (length cs),
      choose_wider (suc c) s (suc (length cs)) (omega (arith, h.0)),
    )

unrank_at : (s j r : ℕ) (b : Bool) → nat_le (choose s (suc j)) r ≡ b →
    unrank (suc s) (suc j) r ≡ cond b (s ∷ unrank s j (r - choose s (suc j))) (unrank s (suc j) r)
unrank_at s j r b e =
    ap (λ b. cond b (s ∷ unrank s j (r - choose s (suc j))) (unrank s (suc j) r)) e

unrank_top : (s : ℕ) (cs : List ℕ) → unrank s (length cs) (rank cs) ≡ cs →
    unrank (suc s) (suc (length cs)) (choose s (suc (length cs)) + rank cs) ≡ s ∷ cs
unrank_top s cs h =
    let e : choose s (suc (length cs)) + rank cs - choose s (suc (length cs)) ≡ rank cs =
    omega arith in
    unrank_at s (length cs) (choose s (suc (length cs)) + rank cs) true (grind (arith, nat_tests))
    ∙ ap (λ r. s ∷ unrank s (length cs) r) e ∙ ap (λ xs. s ∷ xs) h

-- the places are found again
pub unrank-rank : (s : ℕ) (cs : List ℕ) → AreDescending s cs → unrank s (length cs) (rank cs) ≡ cs
unrank-rank zero [] h = refl
unrank-rank zero (c ∷ cs) h = absurd (omega (arith, h.0))
unrank-rank (suc s) [] h = refl
unrank-rank (suc s) (c ∷ cs) h =
    elim (cases_lt c s) [
      | inl less ↦
          let small = rank_below s (c ∷ cs) (less, h.1) in
          unrank_at s (length cs) (rank (c ∷ cs)) false (grind (arith, nat_tests))
          ∙ unrank-rank s (c ∷ cs) (less, h.1)
      | inr more ↦
          let e : s ≡ c = omega (arith, h.0) in
          subst (λ x. unrank (suc s) (suc (length cs)) (choose x (suc (length cs)) + rank cs) ≡ x
          ∷ cs) e (unrank_top s cs (unrank-rank s cs (subst (λ x. AreDescending x cs) (sym e) h.1)))
    ]

found_more : (s j r : ℕ) (cs : List ℕ) → choose s (suc j) ≤ r →
    IsRanked s j (r - choose s (suc j)) cs → IsRanked (suc s) (suc j) r (s ∷ cs)
found_more s j r cs h f =
    record {
      count = ap suc f.count;
      places = (omega arith, f.places);
      rank_is = ap (λ n. choose s (suc n) + rank cs) f.count ∙ omega (arith, f.rank_is);
    }

pub rank-unrank : (s j r : ℕ) → r < choose s j → IsRanked s j r (unrank s j r)
rank-unrank zero zero r h =
    record { count = refl; places = tt; rank_is = omega (arith, choose-zero 0) }
rank-unrank zero (suc j) r h = absurd (omega (arith, choose-none j))
rank-unrank (suc s) zero r h =
    record { count = refl; places = tt; rank_is = omega (arith, choose-zero (suc s)) }
rank-unrank (suc s) (suc j) r h =
    elim (cases_lt r (choose s (suc j))) [
      | inl less ↦
          let f = rank-unrank s (suc j) r less in
          let e : unrank (suc s) (suc j) r ≡ unrank s (suc j) r = unrank_at s j r false
          (grind (arith, nat_tests)) in
          subst (IsRanked (suc s) (suc j) r) (sym e)
          (record {
            count = f.count;
            places = descend_wider s (suc s) _ (omega arith) f.places;
            rank_is = f.rank_is;
          })
      | inr more ↦
          let e : unrank (suc s) (suc j) r ≡ s ∷ unrank s j (r - choose s (suc j)) =
          unrank_at s j r true (grind (arith, nat_tests)) in
          subst (IsRanked (suc s) (suc j) r) (sym e)
          (found_more s j r _ more
          (rank-unrank s j (r - choose s (suc j)) (omega (arith, choose-suc s j))))
    ]

-- the rank of a combination, with its own last place as the bound
pub rank_last : (c : ℕ) (cs : List ℕ) → AreDescending c cs →
    rank (c ∷ cs) < choose (c + 1) (length (c ∷ cs))
rank_last c cs h = rank_below (c + 1) (c ∷ cs) (omega arith, h)

-- combinations of equally many places with one rank are one
pub rank_once : (s t : ℕ) (cs ds : List ℕ) → AreDescending s cs → AreDescending t ds →
    length cs ≡ length ds → rank cs ≡ rank ds → cs ≡ ds
rank_once s t cs ds h k e r =
    let up = descend_wider s (s + t) cs (omega arith) h in
    let vp = descend_wider t (s + t) ds (omega arith) k in
    sym (unrank-rank (s + t) cs up) ∙ ap (λ j. unrank (s + t) j (rank cs)) e
    ∙ ap (unrank (s + t) (length ds)) r ∙ unrank-rank (s + t) ds vp

-- the order of ranks is the order of combinations
pub rank_ordered : (s t : ℕ) (cs ds : List ℕ) → AreDescending s cs → AreDescending t ds →
    length cs ≡ length ds → IsBefore cs ds → rank cs < rank ds
rank_ordered s t [] ds h k e b = absurd b
rank_ordered s t (c ∷ cs) [] h k e b = absurd b
rank_ordered s t (c ∷ cs) (d ∷ ds) h k e (inl less) =
    let same : choose d (length (c ∷ cs)) ≡ choose d (length (d ∷ ds)) = ap (choose d) e in
    omega (arith, rank_below d (c ∷ cs) (less, h.1), same)
rank_ordered s t (c ∷ cs) (d ∷ ds) h k e (inr later) =
    let here : choose c (length (c ∷ cs)) ≡ choose d (length (d ∷ ds)) =
    ap (λ x. choose x (length (c ∷ cs))) later.0 ∙ ap (choose d) e in
    omega (arith, rank_ordered c d cs ds h.1 k.1 (omega arith) later.1, here)

-- the first place that is found is the greatest whose binomial is not above the rank
pub unrank-greatest : (s j r c : ℕ) → c < s → choose c (suc j) ≤ r →
    ((x : ℕ) → c < x → x < s → r < choose x (suc j)) →
    unrank s (suc j) r ≡ c ∷ unrank c j (r - choose c (suc j))
unrank-greatest zero j r c h fits above = absurd (omega arith)
unrank-greatest (suc s) j r c h fits above =
    elim (cases_lt c s) [
      | inl less ↦
          let over : r < choose s (suc j) = above s less (omega arith) in
          unrank_at s j r false (grind (arith, nat_tests))
          ∙ unrank-greatest s j r c less fits (λ x k l. above x k (omega arith))
      | inr more ↦
          let e : s ≡ c = omega arith in
          let under : choose s (suc j) ≤ r = subst (λ x. choose x (suc j) ≤ r) (sym e) fits in
          unrank_at s j r true (grind (arith, nat_tests))
          ∙ ap (λ x. x ∷ unrank x j (r - choose x (suc j))) e
    ]

-- one more place is looked at
places_step : (f : ℕ → Bool) (n : ℕ) → length (places_below f n) ≤ length (places_below f (suc n))
places_step f n =
    elim (f n) as (λ b. length (places_below f n) ≤ length
    (cond b (n ∷ places_below f n) (places_below f n))) [ true ↦ omega arith | false ↦ omega arith ]

pub places_wider : (f : ℕ → Bool) (k n : ℕ) → k ≤ n →
    length (places_below f k) ≤ length (places_below f n)
places_wider f k zero h =
    let e : 0 ≡ k = omega arith in
    subst (λ x. length (places_below f x) ≤ length (places_below f 0)) e (omega arith)
places_wider f k (suc n) h =
    elim (cases_lt k (suc n)) [
      | inl less ↦ omega (arith, places_wider f k n (omega arith), places_step f n)
      | inr more ↦ let e : suc n ≡ k = omega arith in
          subst (λ x. length (places_below f x) ≤ length (places_below f (suc n))) e (omega arith)
    ]

-- a place where f holds counts
pub place_counts : (f : ℕ → Bool) (k n : ℕ) → k < n → f k ≡ true →
    length (places_below f k) < length (places_below f n)
place_counts f k n h e =
    let here : length (places_below f (suc k)) ≡ suc (length (places_below f k)) =
    ap (λ b. length (cond b (k ∷ places_below f k) (places_below f k))) e in
    omega (arith, places_wider f (suc k) n h)
