-- What is in a list that is filtered, mapped or joined.
use Rattle.std.proofs.Common.{◌≡◌, ◌≤◌, ◌<◌, ◌+◌, ℕ, zero, suc, inl, inr, Bool, true, false, List, [], ◌∷◌, map, None, sym, subst, ap, ◌∙◌, arith}
use Rattle.std.specs.Prelude.{find}
use Rattle.std.specs.List.{Contains, flat_map, filter, range_with_len}
use Rattle.std.proofs.lemmas.Bool.{cases_Bool, cases_lt}
use Rattle.std.proofs.lemmas.List.Elements.{Contains-append_cases, Contains-append_left, Contains-append_right}
use Rattle.frz_arena.proofs.Lemmas.{none_in_empty, first_in, later_in, in_cases}

pub in_map : {X Y : Type 0} (f : X → Y) (xs : List X) (x : X) → Contains xs x →
    Contains (map f xs) (f x)
in_map f [] x h = absurd (none_in_empty x h)
in_map f (y ∷ xs) x h =
    elim (in_cases y xs x h) [
      | inl e ↦ subst (λ z. Contains (map f (y ∷ xs)) (f z)) e (first_in (f y) (map f xs))
      | inr i ↦ later_in (f y) (map f xs) (f x) (in_map f xs x i)
    ]

pub of_map : {X Y : Type 0} (f : X → Y) (xs : List X) (y : Y) → Contains (map f xs) y →
    (x : X) × Contains xs x × (f x ≡ y)
of_map f [] y h = absurd (none_in_empty y h)
of_map f (x ∷ xs) y h =
    elim (in_cases (f x) (map f xs) y h) [
      | inl e ↦ (x, first_in x xs, e)
      | inr i ↦ (let w = of_map f xs y i in (w.0, later_in x xs w.0 w.1, w.2))
    ]

pub in_filter : {X : Type 0} (test : X → Bool) (xs : List X) (x : X) → Contains xs x →
    test x ≡ true → Contains (filter test xs) x
in_filter test [] x h t = absurd (none_in_empty x h)
in_filter test (y ∷ xs) x h t =
    elim (cases_Bool (test y)) [
      | inl kept ↦ rw kept (elim (in_cases y xs x h) [
        | inl e ↦ subst (λ z. Contains (y ∷ filter test xs) z) e (first_in y (filter test xs))
        | inr i ↦ later_in y (filter test xs) x (in_filter test xs x i t)
      ])
      | inr gone ↦ rw gone (elim (in_cases y xs x h) [
        | inl e ↦ absurd (let same = ap test e in cc)
        | inr i ↦ in_filter test xs x i t
      ])
    ]

pub of_filter : {X : Type 0} (test : X → Bool) (xs : List X) (x : X) →
    Contains (filter test xs) x → Contains xs x × (test x ≡ true)
of_filter test [] x h = absurd (none_in_empty x h)
of_filter test (y ∷ xs) x h =
    elim (cases_Bool (test y)) [
      | inl kept ↦ (let there = rw kept at h in
          elim (in_cases y (filter test xs) x there) [
            | inl e ↦ (subst (λ z. Contains (y ∷ xs) z) e (first_in y xs), sym (ap test e) ∙ kept)
            | inr i ↦ (let w = of_filter test xs x i in (later_in y xs x w.0, w.1))
          ])
      | inr gone ↦ (let there = rw gone at h in
          let w = of_filter test xs x there in (later_in y xs x w.0, w.1))
    ]

pub in_flat_map : {X Y : Type 0} (f : X → List Y) (xs : List X) (x : X) (y : Y) →
    Contains xs x → Contains (f x) y → Contains (flat_map f xs) y
in_flat_map f [] x y h i = absurd (none_in_empty x h)
in_flat_map f (z ∷ xs) x y h i =
    elim (in_cases z xs x h) [
      | inl e ↦ Contains-append_left (f z) (flat_map f xs) y
          (subst (λ w. Contains (f w) y) (sym e) i)
      | inr j ↦ Contains-append_right (f z) (flat_map f xs) y (in_flat_map f xs x y j i)
    ]

pub of_flat_map : {X Y : Type 0} (f : X → List Y) (xs : List X) (y : Y) →
    Contains (flat_map f xs) y → (x : X) × Contains xs x × Contains (f x) y
of_flat_map f [] y h = absurd (none_in_empty y h)
of_flat_map f (x ∷ xs) y h =
    elim (Contains-append_cases (f x) (flat_map f xs) y h) [
      | inl i ↦ (x, first_in x xs, i)
      | inr j ↦ (let w = of_flat_map f xs y j in (w.0, later_in x xs w.0 w.1, w.2))
    ]

pub in_range : (a n i : ℕ) → a ≤ i → i < a + n → Contains (range_with_len a n) i
in_range a zero i h l = absurd (omega arith)
in_range a (suc n) i h l =
    elim (cases_lt a i) [
      | inl less ↦ later_in a (range_with_len (a + 1) n) i
          (in_range (a + 1) n i (omega arith) (omega arith))
      | inr least ↦ (let e : a ≡ i = omega arith in
          subst (λ z. Contains (range_with_len a (suc n)) z) e
          (first_in a (range_with_len (a + 1) n)))
    ]

-- no element passes a test that finds none
pub none_found : {X : Type 0} (test : X → Bool) (xs : List X) (x : X) → find test xs ≡ None →
    Contains xs x → test x ≡ false
none_found test [] x h i = absurd (none_in_empty x i)
none_found test (y ∷ xs) x h i =
    elim (cases_Bool (test y)) [
      | inl passes ↦ absurd (let e = rw passes at h in cc)
      | inr fails ↦ (let e = rw fails at h in elim (in_cases y xs x i) [
        | inl same ↦ sym (ap test same) ∙ fails
        | inr j ↦ none_found test xs x e j
      ])
    ]
