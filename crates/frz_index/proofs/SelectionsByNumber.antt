-- A number below the radix is that of its selection.
use Rattle.std.proofs.Common.{◌≡◌, ℕ, zero, suc, ◌+◌, ◌-◌, ◌<◌, ◌≤◌, Bool, true, false, cond, List, [], ◌∷◌, length, refl, ap, sym, ◌∙◌, subst, arith, inl, inr}
use Rattle.std.specs.Prelude.{◌==◌, ◌||◌, nat_lt}
use Rattle.std.specs.List.{list_any}
use Rattle.std.proofs.lemmas.Bool.{cases_eq, cases_lt, eq-eqb, eqb-true, false_from_ne_true}
use Rattle.std.proofs.lemmas.Bool.Decides.{nat_tests}
use Rattle.frz_combinations.specs.Binomials.{choose}
use Rattle.frz_combinations.specs.Combinations.{AreDescending, places_below, rank, unrank}
use Rattle.frz_combinations.specs.Selections.{choices, count_and_rank, digit, radix, selection_at}
use Rattle.frz_combinations.proofs.Lemmas.{rank-unrank}

-- so many places more than the least, and a rank below their binomial, make the number
record Found (s l n r : ℕ) (x : ℕ × ℕ) : Type 0 where
  least : l ≤ x.0
  most : x.0 ≤ l + n
  below : x.1 < choose s x.0
  number : choices s l (x.0 - l) + x.1 ≡ r

found : (s l n r : ℕ) → r < choices s l (suc n) → Found s l n r (count_and_rank s l n r)
found s l zero r h =
    let none : l - l ≡ 0 = omega arith in
    record {
      least = omega arith;
      most = omega arith;
      below = omega arith;
      number = ap (λ k. choices s l k + r) none ∙ omega arith;
    }
found s l (suc n) r h =
    let Goal : Bool → Type 0 = λ b. Found s l (suc n) r
    (cond b (l, r) (count_and_rank s (suc l) n (r - choose s l))) in
    elim (cases_lt r (choose s l)) [
      | inl less ↦
          let test : nat_lt r (choose s l) ≡ true = grind (arith, nat_tests) in
          let none : l - l ≡ 0 = omega arith in
          subst Goal (sym test)
          (record {
            least = omega arith;
            most = omega arith;
            below = less;
            number = ap (λ k. choices s l k + r) none ∙ omega arith;
          })
      | inr more ↦
          let test : nat_lt r (choose s l) ≡ false = grind (arith, nat_tests) in
          let x = count_and_rank s (suc l) n (r - choose s l) in
          let f = found s (suc l) n (r - choose s l) (omega (arith, h, more)) in
          let one : x.0 - l ≡ suc (x.0 - suc l) = omega (arith, f.least) in
          subst Goal (sym test)
          (record {
            least = omega (arith, f.least);
            most = omega (arith, f.most);
            below = f.below;
            number = ap (λ k. choices s l k + x.1) one ∙ omega (arith, f.number, more);
          })
    ]

-- the selection of l to m places with number d
pub record IsSelection (s l m d : ℕ) (cs : List ℕ) : Type 0 where
  pub places : AreDescending s cs
  pub least : l ≤ length cs
  pub most : length cs ≤ m
  pub number : digit s l cs ≡ d

pub selected : (s l m d : ℕ) → l ≤ m → d < radix s l m → IsSelection s l m d (selection_at s l m d)
selected s l m d h below =
    let x = count_and_rank s l (m - l) d in
    let f = found s l (m - l) d below in
    let ranked = rank-unrank s x.0 x.1 f.below in
    record {
      places = ranked.places;
      least = omega (arith, ranked.count, f.least);
      most = omega (arith, ranked.count, f.most, h);
      number = ap (λ k. choices s l (k - l) + rank (unrank s x.0 x.1)) ranked.count
          ∙ ap (λ r. choices s l (x.0 - l) + r) ranked.rank_is ∙ f.number;
    }

-- the place is one of these
abbrev pub among : ℕ → List ℕ → Bool
among k ks = list_any (λ j. k == j) ks

-- a place behind the last is none of them
past_last : (n k : ℕ) (ks : List ℕ) → AreDescending n ks → n ≤ k → among k ks ≡ false
past_last n k [] h l = refl
past_last n k (c ∷ cs) h l =
    let other : (k == c) ≡ false = false_from_ne_true (k == c)
    (λ e. let same = eqb-true k c e in absurd (omega (arith, same, l, h.0))) in
    ap (λ b. b || among k cs) other ∙ past_last c k cs h.1 (omega (arith, h.0, l))

below_first : (c k : ℕ) (cs : List ℕ) → k < c → among k (c ∷ cs) ≡ among k cs
below_first c k cs l =
    let other : (k == c) ≡ false = false_from_ne_true (k == c)
    (λ e. let same = eqb-true k c e in absurd (omega (arith, same, l))) in
    ap (λ b. b || among k cs) other

-- a combination is the list of the places at which a test for it holds
pub places_are : (f : ℕ → Bool) (n : ℕ) (ks : List ℕ) → AreDescending n ks →
    ((k : ℕ) → k < n → f k ≡ among k ks) → places_below f n ≡ ks
places_are f zero [] h same = refl
places_are f zero (c ∷ cs) h same = absurd (omega (arith, h.0))
places_are f (suc n) [] h same =
    ap (λ b. cond b (n ∷ places_below f n) (places_below f n)) (same n (omega arith))
    ∙ places_are f n [] tt (λ k l. same k (omega (arith, l)))
places_are f (suc n) (c ∷ cs) h same =
    elim (cases_eq c n) [
      | inl e ↦
          let first : among n (c ∷ cs) ≡ true = ap (λ b. b || among n cs) (eq-eqb n c (sym e)) in
          ap (λ b. cond b (n ∷ places_below f n) (places_below f n))
          (same n (omega arith) ∙ first)
          ∙ ap (λ ks. n ∷ ks)
          (places_are f n cs (subst (λ m. AreDescending m cs) e h.1)
          (λ k l. same k (omega (arith, l)) ∙ below_first c k cs (omega (arith, l, e))))
          ∙ ap (λ m. m ∷ cs) (sym e)
      | inr other ↦
          let less : c < n = omega (arith, h.0, other) in
          let down : AreDescending n (c ∷ cs) = (less, h.1) in
          ap (λ b. cond b (n ∷ places_below f n) (places_below f n))
          (same n (omega arith) ∙ past_last n n (c ∷ cs) down (omega arith))
          ∙ places_are f n (c ∷ cs) down (λ k l. same k (omega (arith, l)))
    ]
