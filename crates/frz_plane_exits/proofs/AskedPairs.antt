-- The pairs of a plane are added one by one, with what a step is worth at each.
use Rattle.std.proofs.Common.{◌≡◌, ℕ, ◌+◌, ◌<◌, Bool, true, List, ◌⊎◌, ap, sym, ◌∙◌, arith, inl, inr}
use Rattle.std.proofs.lemmas.Bool.{cases_eq, cases_lt}
use Rattle.frz_planes.specs.Planes.{HasNoneFrom, IsNext, has_pair, pair_number}
use Rattle.frz_sets.specs.declared.exit.Value.{Value}
use Rattle.frz_plane_exits.specs.Adding.{Adds, IsPair}
use Rattle.frz_plane_exits.specs.declared.exit_plane.ExitPlane.{ExitPlane}
use Rattle.frz_plane_exits.proofs.Joining.{both, alike, nothing}

-- two pairs of one number
same_white : (a b x y : ℕ) → b < 64 → y < 64 → pair_number x y ≡ pair_number a b → a ≡ x
same_white a b x y lb ly e = omega arith

same_black : (a b x y : ℕ) → b < 64 → y < 64 → pair_number x y ≡ pair_number a b → b ≡ y
same_black a b x y lb ly e = omega arith

module _ (plane : List ℕ) (value : ℕ → ℕ → Value) (freedom : ℕ → ℕ → Bool) where
  -- a pair of the plane, with this value and this freedom there
  pub record Asked (v : Value) (f : Bool) (a b : ℕ) : Type 0 where
    pub there : has_pair plane a b ≡ true
    pub worth : value a b ≡ v
    pub free : freedom a b ≡ f

  -- its number is below n
  pub record AskedBelow (n : ℕ) (v : Value) (f : Bool) (a b : ℕ) : Type 0 where
    pub asked : Asked v f a b
    pub low : pair_number a b < n

  pub none_asked : (xs : List ExitPlane) → Adds xs xs (AskedBelow 0)
  none_asked xs =
      nothing (AskedBelow 0) xs (λ v f a b la lb h. let low = h.low in omega arith)

  module _ (n a b : ℕ) (next : IsNext plane n a b) where
    abbrev then : ℕ
    then = pair_number a b + 1

    this : (v : Value) (f : Bool) (x y : ℕ) → IsPair (value a b) (freedom a b) a b v f x y →
        AskedBelow then v f x y
    this v f x y h =
        let number : pair_number x y ≡ pair_number a b =
        ap (λ t. pair_number t y) (sym h.same_white) ∙ ap (pair_number a) (sym h.same_black) in
        record {
          asked = record {
            there = ap (λ t. has_pair plane t y) (sym h.same_white)
                ∙ ap (has_pair plane a) (sym h.same_black) ∙ next.there;
            worth = ap (λ t. value t y) (sym h.same_white) ∙ ap (value a) (sym h.same_black)
                ∙ h.same_worth;
            free = ap (λ t. freedom t y) (sym h.same_white) ∙ ap (freedom a) (sym h.same_black)
                ∙ h.same_freedom;
          };
          low = omega arith;
        }

    before_or_this : (v : Value) (f : Bool) (x y : ℕ) → x < 64 → y < 64 → AskedBelow then v f x y →
        AskedBelow n v f x y ⊎ IsPair (value a b) (freedom a b) a b v f x y
    before_or_this v f x y lx ly h =
        let below = h.low in
        elim (cases_lt (pair_number x y) n) [
          | inl low ↦ inl (record { asked = h.asked; low = low })
          | inr high ↦ elim (cases_eq (pair_number x y) (pair_number a b)) [
            | inl e ↦ (let white = same_white a b x y next.black ly e in
                let black = same_black a b x y next.black ly e in
                inr (record {
                  same_worth = ap (λ t. value t b) white ∙ ap (value x) black ∙ h.asked.worth;
                  same_freedom = ap (λ t. freedom t b) white ∙ ap (freedom x) black ∙ h.asked.free;
                  same_white = white;
                  same_black = black;
                }))
            | inr ne ↦ absurd (let off = next.first x y lx ly high (omega arith) in
                let on = h.asked.there in cc)
          ]
        ]

    pub one_asked : (xs ys zs : List ExitPlane) → Adds xs ys (AskedBelow n) →
        Adds ys zs (IsPair (value a b) (freedom a b) a b) → Adds xs zs (AskedBelow then)
    one_asked xs ys zs g h =
        both (AskedBelow n) (IsPair (value a b) (freedom a b) a b) (AskedBelow then) xs ys zs g h
        (λ v f x y lx ly k. let low = k.low in
        let from = next.from in record { asked = k.asked; low = omega arith })
        (λ v f x y lx ly k. this v f x y k) before_or_this

  pub all_asked : (n : ℕ) (xs ys : List ExitPlane) → HasNoneFrom plane n →
      Adds xs ys (AskedBelow n) → Adds xs ys Asked
  all_asked n xs ys none h =
      alike (AskedBelow n) Asked xs ys h (λ v f a b la lb k. k.asked)
      (λ v f a b la lb k.
      elim (cases_lt (pair_number a b) n) [
        | inl low ↦ record { asked = k; low = low }
        | inr high ↦ absurd (let off = none.none a b la lb high in let on = k.there in cc)
      ])
