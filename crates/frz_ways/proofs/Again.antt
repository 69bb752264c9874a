-- Numbers of which none, or a first one, comes again.
use Rattle.std.proofs.Common.{◌≡◌, ◌<◌, ◌≤◌, ◌==◌, ◌||◌, ◌++◌, ◌⊎◌, ℕ, zero, suc, inl, inr, Bool, true, false, List, [], ◌∷◌, Some, None, Option, length, take, refl, sym, subst, ap, ◌∙◌, arith, length-append}
use Rattle.std.specs.Prelude.{slice_index}
use Rattle.std.specs.List.{list_any}
use Rattle.std.proofs.Math.Seq.{take-append_seam, get_or-append_seam}
use Rattle.std.proofs.lemmas.List.{take-append-le, get_or_append_left}
use Rattle.std.proofs.lemmas.Bool.{cases_lt, cases_Bool, eqb-true}
use Rattle.frz_ways.specs.Shown.{comes_again, first_again, least_below, or_at}

module _ (test : ℕ → Bool) where
  abbrev Fails : ℕ → Type 0
  Fails n = (i : ℕ) → i < n → test i ≡ false

  least_none : (n : ℕ) → Fails n → least_below test n ≡ None
  unfolding least_below
  least_none zero all = refl
  least_none (suc n) all =
      ap (λ o. or_at o (test n) n) (least_none n (λ i l. all i (omega (arith, l))))
      ∙ ap (λ b. or_at None b n) (all n (omega arith))

  least_is : (k : ℕ) → test k ≡ true → Fails k → (n : ℕ) → k < n → least_below test n ≡ Some k
  unfolding least_below
  least_is k passes all zero l = absurd (omega (arith, l))
  least_is k passes all (suc n) l =
      elim (cases_lt k n) [
        | inl less ↦ ap (λ o. or_at o (test n) n) (least_is k passes all n less)
        | inr not ↦ (
            let same : n ≡ k = omega (arith, l, not) in
            let none = least_none n (λ i m. all i (omega (arith, m, same))) in
            ap (λ o. or_at o (test n) n) none ∙ ap (λ b. or_at None b n) (ap test same ∙ passes)
            ∙ ap (λ m. Some m) same)
      ]

  at_or : (o : Option ℕ) (b : Bool) (n k : ℕ) → or_at o b n ≡ Some k
      → (o ≡ Some k) ⊎ ((b ≡ true) × (n ≡ k))
  at_or (Some m) b n k e = inl e
  at_or None true n k e = inr (refl, cc)
  at_or None false n k e = absurd (cc)

  least_passes : (n k : ℕ) → least_below test n ≡ Some k → test k ≡ true
  unfolding least_below
  least_passes zero k e = absurd (cc)
  least_passes (suc n) k e =
      elim (at_or (least_below test n) (test n) n k e) [
        | inl h ↦ least_passes n k h
        | inr h ↦ subst (λ m. test m ≡ true) h.1 h.0
      ]

-- no number stands at an earlier place too
abbrev pub AreFresh : List ℕ → Type 0
AreFresh numbers = (k : ℕ) → k < length numbers → comes_again numbers k ≡ false

again_front : (xs ys : List ℕ) (k : ℕ) → k < length xs
    → comes_again (xs ++ ys) k ≡ comes_again xs k
again_front xs ys k l =
    ap (λ (z : List ℕ). list_any (λ n. n == slice_index (xs ++ ys) k) z)
    (take-append-le k xs ys (omega (arith, l)))
    ∙ ap (λ m. list_any (λ n. n == m) (take k xs)) (get_or_append_left xs ys 0 k l)

again_at : (xs : List ℕ) (n : ℕ) (ys : List ℕ)
    → comes_again (xs ++ n ∷ ys) (length xs) ≡ list_any (λ m. m == n) xs
again_at xs n ys =
    ap (λ (z : List ℕ). list_any (λ m. m == slice_index (xs ++ n ∷ ys) (length xs)) z)
    (take-append_seam xs (n ∷ ys))
    ∙ ap (λ k. list_any (λ m. m == k) xs) (get_or-append_seam xs n ys 0)

pub fresh_none : AreFresh []
fresh_none k l = absurd (omega (arith, l))

pub fresh_more : (xs : List ℕ) (n : ℕ) → AreFresh xs → list_any (λ m. m == n) xs ≡ false
    → AreFresh (xs ++ n ∷ [])
fresh_more xs n fresh new k l =
    let long = length-append xs (n ∷ []) in
    elim (cases_lt k (length xs)) [
      | inl less ↦ again_front xs (n ∷ []) k less ∙ fresh k less
      | inr not ↦ (
          let same : k ≡ length xs = omega (arith, l, not, long) in
          ap (comes_again (xs ++ n ∷ [])) same ∙ (again_at xs n [] ∙ new))
    ]

-- where all are fresh, none comes again
pub none_again : (xs : List ℕ) → AreFresh xs → first_again xs ≡ None
none_again xs fresh = least_none (comes_again xs) (length xs) fresh

-- the first that comes again
pub again_is : (xs : List ℕ) (n : ℕ) (ys : List ℕ) → AreFresh xs
    → list_any (λ m. m == n) xs ≡ true → first_again (xs ++ n ∷ ys) ≡ Some (length xs)
again_is xs n ys fresh old =
    let long = length-append xs (n ∷ ys) in
    least_is (comes_again (xs ++ n ∷ ys)) (length xs) (again_at xs n ys ∙ old)
    (λ i l. again_front xs (n ∷ ys) i l ∙ fresh i l) (length (xs ++ n ∷ ys))
    (omega (arith, long))

-- it stands behind fresh ones
pub again_later : (xs ys : List ℕ) (k : ℕ) → AreFresh xs → first_again (xs ++ ys) ≡ Some k
    → length xs ≤ k
again_later xs ys k fresh e =
    elim (cases_lt k (length xs)) [
      | inl less ↦ absurd (
          let t = least_passes (comes_again (xs ++ ys)) (length (xs ++ ys)) k e in
          let f = again_front xs ys k less ∙ fresh k less in
          cc)
      | inr not ↦ omega (arith, not)
    ]

-- a number that passes stands at some place
pub place_of_old : (xs : List ℕ) (n : ℕ) → list_any (λ m. m == n) xs ≡ true
    → (j : ℕ) × (j < length xs) × (slice_index xs j ≡ n)
place_of_old [] n e = absurd (cc)
place_of_old (x ∷ xs) n e =
    elim (cases_Bool (x == n)) [
      | inl t ↦ (0, omega arith, eqb-true x n t)
      | inr f ↦ (
          let rest : list_any (λ m. m == n) xs ≡ true =
          sym (ap (λ b. b || list_any (λ m. m == n) xs) f) ∙ e in
          let r = place_of_old xs n rest in
          (suc r.0, (let l = r.1 in omega (arith, l)), r.2))
    ]
