-- What a filter with a map keeps.
use Rattle.std.proofs.Common.{◌≡◌, ℕ, zero, suc, ◌+◌, ◌<◌, ◌++◌, take, inl, inr, List, [], ◌∷◌, length, get_or, Option, Some, None, refl, sym, ◌∙◌, ap, subst, arith}
use Rattle.std.specs.List.{Contains, cons_option, filter_map, slice_get}
use Rattle.std.proofs.lemmas.List.{take_more}
use Rattle.std.proofs.lemmas.List.Elements.{Contains-append_right, filter_map-append}
use Rattle.std.proofs.lemmas.Option.{same_Some}
use Rattle.frz_arena.proofs.Lemmas.{cases_Option, none_in_empty, in_cases}
use Rattle.frz_unmove.proofs.Lemmas.{at_place}

-- x is picked from the list
abbrev pub Picked : {X Y : Type 0} → (X → Option Y) → List X → Y → Type 0
Picked {X} f xs y = (x : X) × Contains xs x × (f x ≡ Some y)

module _ {X Y : Type 0} (f : X → Option Y) where
  picked_is_kept : (x : X) (xs : List X) (y : Y) → f x ≡ Some y
      → filter_map f (x ∷ xs) ≡ y ∷ filter_map f xs
  picked_is_kept x xs y e = ap (λ o. cons_option o (filter_map f xs)) e

  unpicked_is_dropped : (x : X) (xs : List X) → f x ≡ None → filter_map f (x ∷ xs) ≡ filter_map f xs
  unpicked_is_dropped x xs e = ap (λ o. cons_option o (filter_map f xs)) e

  pub picked_from : (xs : List X) (y : Y) → Contains (filter_map f xs) y → Picked f xs y
  picked_from [] y h = absurd (none_in_empty y h)
  picked_from (x ∷ xs) y h = elim (cases_Option (f x)) [
    | inr s ↦ elim (in_cases s.0 (filter_map f xs) y
        (subst (λ ys. Contains ys y) (picked_is_kept x xs s.0 s.1) h)) [
          | inl e ↦ (x, (zero, omega arith, refl), s.1 ∙ ap Some e)
          | inr i ↦ let r = picked_from xs y i in
              (r.0, Contains-append_right (x ∷ []) xs r.0 r.1, r.2)
        ]
    | inl n ↦ let r = picked_from xs y
        (subst (λ ys. Contains ys y) (unpicked_is_dropped x xs n) h) in
        (r.0, Contains-append_right (x ∷ []) xs r.0 r.1, r.2)
  ]

  pub picked_in : (xs : List X) (x : X) (y : Y) → Contains xs x → f x ≡ Some y
      → Contains (filter_map f xs) y
  picked_in [] x y h e = absurd (none_in_empty x h)
  picked_in (z ∷ xs) x y h e = elim (in_cases z xs x h) [
    | inl s ↦ subst (λ ys. Contains ys y) (sym (picked_is_kept z xs y (ap f s ∙ e)))
        (zero, omega arith, refl)
    | inr i ↦ let r = picked_in xs x y i e in elim (cases_Option (f z)) [
      | inr s ↦ subst (λ ys. Contains ys y) (sym (picked_is_kept z xs s.0 s.1))
          (Contains-append_right (s.0 ∷ []) (filter_map f xs) y r)
      | inl n ↦ subst (λ ys. Contains ys y) (sym (unpicked_is_dropped z xs n)) r
    ]
  ]

-- one element more
pub picked_more : {X Y : Type 0} (f : X → Option Y) (xs : List X) (k : ℕ) (d : X) → k < length xs →
    filter_map f (take (k + 1) xs) ≡ filter_map f (take k xs) ++ cons_option (f (get_or xs k d)) []
picked_more f xs k d l =
    ap (filter_map f) (take_more xs k d l) ∙ filter_map-append f (take k xs) (get_or xs k d ∷ [])

-- no two elements clash
abbrev pub Apart : {X : Type 0} → (X → X → Type 0) → List X → Type 0
Apart R [] = Unit {0}
Apart {X} R (x ∷ xs) = ((y : X) → Contains xs y → R x y → ⊥) × Apart R xs

-- so what is picked does not clash either
pub one_place : {X Y : Type 0} (f : X → Option Y) (R : X → X → Type 0) (S : Y → Y → Type 0)
    (xs : List X) → Apart R xs → ((y z : Y) → S y z → S z y) →
    ((x w : X) (y z : Y) → f x ≡ Some y → f w ≡ Some z → S y z → R x w) →
    (k l : ℕ) (y z : Y) → slice_get (filter_map f xs) k ≡ Some y →
    slice_get (filter_map f xs) l ≡ Some z → S y z → k ≡ l
one_place f R S [] h turn from k l y z a b s = absurd (none_in_empty y (at_place [] k y a))
one_place {X} {Y} f R S (x ∷ xs) h turn from k l y z a b s = elim (cases_Option (f x)) [
  | inl n ↦ one_place f R S xs h.1 turn from k l y z
      (subst (λ ys. slice_get ys k ≡ Some y) (unpicked_is_dropped f x xs n) a)
      (subst (λ ys. slice_get ys l ≡ Some z) (unpicked_is_dropped f x xs n) b) s
  | inr t ↦
      at t.0 t.1 (λ k l u v. one_place f R S xs h.1 turn from k l y z u v s) k l
      (subst (λ ys. slice_get ys k ≡ Some y) (picked_is_kept f x xs t.0 t.1) a)
      (subst (λ ys. slice_get ys l ≡ Some z) (picked_is_kept f x xs t.0 t.1) b)
]
  where
    clash : (v w : Y) → f x ≡ Some v → S v w → Contains (filter_map f xs) w → ⊥
    clash v w e c i =
        let r = picked_from f xs w i in
        h.0 r.0 r.1 (from x r.0 v w e r.2 c)

    at : (v : Y) → f x ≡ Some v →
        ((k l : ℕ) → slice_get (filter_map f xs) k ≡ Some y →
        slice_get (filter_map f xs) l ≡ Some z → k ≡ l) →
        (k l : ℕ) → slice_get (v ∷ filter_map f xs) k ≡ Some y →
        slice_get (v ∷ filter_map f xs) l ≡ Some z → k ≡ l
    at v e later zero zero a b = refl
    at v e later zero (suc l) a b =
        absurd (clash v z e (subst (λ u. S u z) (sym (same_Some v y a)) s)
        (at_place (filter_map f xs) l z b))
    at v e later (suc k) zero a b =
        absurd (clash v y e (subst (λ u. S u y) (sym (same_Some v z b)) (turn y z s))
        (at_place (filter_map f xs) k y a))
    at v e later (suc k) (suc l) a b = ap suc (later k l a b)
