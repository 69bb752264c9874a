-- A pair is added to the planes of exits.
use Rattle.std.proofs.Common.{◌≡◌, ◌≢◌, ℕ, zero, suc, ◌<◌, Bool, true, ◌&&◌, ◌||◌, Some, List, [], ◌∷◌, ◌++◌, ◌⊎◌, length, slice_set, refl, ap, sym, ◌∙◌, inl, inr}
use Rattle.std.specs.Prelude.{◌==◌}
use Rattle.std.specs.List.{slice_get}
use Rattle.std.proofs.lemmas.Bool.{and_from, and_parts, cases_eq, eq-eqb, eqb-true, or_cases, or_left, or_right}
use Rattle.std.proofs.lemmas.Option.{same_Some}
use Rattle.frz_planes.specs.Planes.{IsPlaneOf, has_pair}
use Rattle.frz_sets.specs.declared.exit.Value.{Value}
use Rattle.frz_plane_exits.specs.Adding.{Adds, IsPair}
use Rattle.frz_plane_exits.specs.Exits.{HasExit}
use Rattle.frz_plane_exits.specs.declared.exit_plane.ExitPlane.{ExitPlane}

kept : {X : Type 0} (xs : List X) (y x : X) (k : ℕ) → slice_get xs k ≡ Some x →
    slice_get (xs ++ y ∷ []) k ≡ Some x
kept [] y x k h = absurd cc
kept (z ∷ xs) y x zero h = h
kept (z ∷ xs) y x (suc k) h = kept xs y x k h

last : {X : Type 0} (xs : List X) (y : X) → slice_get (xs ++ y ∷ []) (length xs) ≡ Some y
last [] y = refl
last (z ∷ xs) y = last xs y

old_or_last : {X : Type 0} (xs : List X) (y x : X) (k : ℕ) →
    slice_get (xs ++ y ∷ []) k ≡ Some x → (slice_get xs k ≡ Some x) ⊎ (y ≡ x)
old_or_last [] y x zero h = inr (same_Some y x h)
old_or_last [] y x (suc k) h = absurd cc
old_or_last (z ∷ xs) y x zero h = inl h
old_or_last (z ∷ xs) y x (suc k) h = old_or_last xs y x k h

written : {X : Type 0} (xs : List X) (y x : X) (k : ℕ) → slice_get xs k ≡ Some x →
    slice_get (slice_set xs k y) k ≡ Some y
written [] y x k h = absurd cc
written (z ∷ xs) y x zero h = refl
written (z ∷ xs) y x (suc k) h = written xs y x k h

unwritten : {X : Type 0} (xs : List X) (y : X) (k j : ℕ) → j ≢ k →
    slice_get (slice_set xs k y) j ≡ slice_get xs j
unwritten [] y k j ne = refl
unwritten (z ∷ xs) y zero zero ne = absurd (ne refl)
unwritten (z ∷ xs) y zero (suc j) ne = refl
unwritten (z ∷ xs) y (suc k) zero ne = refl
unwritten (z ∷ xs) y (suc k) (suc j) ne = unwritten xs y k j (λ e. ne (ap suc e))

-- a pair of one pair alone
is_that : (a b x y : ℕ) → (a == x && b == y) ≡ true → (x ≡ a) × (y ≡ b)
is_that a b x y h =
    let parts = and_parts (a == x) (b == y) h in
    (sym (eqb-true a x parts.0), sym (eqb-true b y parts.1))

that_is : (a b x y : ℕ) → x ≡ a → y ≡ b → (a == x && b == y) ≡ true
that_is a b x y e f =
    and_from (a == x) (b == y) (eq-eqb a x (sym e)) (eq-eqb b y (sym f))

module _ (exits : List ExitPlane) (value : Value) (free : Bool) (x y : ℕ) where
  -- a new plane has the pair alone
  pub added_last : (new : ExitPlane) → new.value ≡ value → new.free ≡ free →
      IsPlaneOf new.plane (λ a b. a == x && b == y) →
      Adds exits (exits ++ new ∷ []) (IsPair value free x y)
  added_last new worth freedom is = record {
    kept = λ v f a b la lb h. record {
      place = h.place;
      exit = h.exit;
      there = kept exits new h.exit h.place h.there;
      worth = h.worth;
      freedom = h.freedom;
      pair = h.pair;
    };
    added = λ v f a b la lb h. record {
      place = length exits;
      exit = new;
      there = last exits new;
      worth = worth ∙ h.same_worth;
      freedom = freedom ∙ h.same_freedom;
      pair = is a b la lb ∙ that_is a b x y h.same_white h.same_black;
    };
    only = λ v f a b la lb h.
        elim (old_or_last exits new h.exit h.place h.there) [
          | inl old ↦ inl (record {
            place = h.place;
            exit = h.exit;
            there = old;
            worth = h.worth;
            freedom = h.freedom;
            pair = h.pair;
          })
          | inr e ↦ (let pair = is_that a b x y
              (sym (is a b la lb) ∙ ap (λ (z : ExitPlane). has_pair z.plane a b) e ∙ h.pair) in
              inr (record {
                same_worth = sym worth ∙ ap (λ (z : ExitPlane). z.value) e ∙ h.worth;
                same_freedom = sym freedom ∙ ap (λ (z : ExitPlane). z.free) e ∙ h.freedom;
                same_white = pair.0;
                same_black = pair.1;
              }))
        ];
  }

  -- a plane that is there gets the pair
  module _ (k : ℕ) (old new : ExitPlane) (at : slice_get exits k ≡ Some old)
      (worth : new.value ≡ value) (freedom : new.free ≡ free) (old_worth : old.value ≡ value)
      (old_freedom : old.free ≡ free)
      (is : IsPlaneOf new.plane (λ a b. (a == x && b == y) || has_pair old.plane a b)) where
    still : (v : Value) (f : Bool) (a b : ℕ) → a < 64 → b < 64 → HasExit exits v f a b →
        HasExit (slice_set exits k new) v f a b
    still v f a b la lb h =
        elim (cases_eq h.place k) [
          | inl e ↦ (let same : old ≡ h.exit = same_Some old h.exit
              (sym at ∙ ap (slice_get exits) (sym e) ∙ h.there) in
              record {
                place = k;
                exit = new;
                there = written exits new old k at;
                worth = worth ∙ sym old_worth ∙ ap (λ (z : ExitPlane). z.value) same ∙ h.worth;
                freedom = freedom ∙ sym old_freedom ∙ ap (λ (z : ExitPlane). z.free) same
                    ∙ h.freedom;
                pair = is a b la lb
                    ∙ or_right (a == x && b == y) (has_pair old.plane a b)
                    (ap (λ (z : ExitPlane). has_pair z.plane a b) same ∙ h.pair);
              })
          | inr ne ↦ record {
            place = h.place;
            exit = h.exit;
            there = unwritten exits new k h.place ne ∙ h.there;
            worth = h.worth;
            freedom = h.freedom;
            pair = h.pair;
          }
        ]

    only_this : (v : Value) (f : Bool) (a b : ℕ) → a < 64 → b < 64 →
        HasExit (slice_set exits k new) v f a b →
        HasExit exits v f a b ⊎ IsPair value free x y v f a b
    only_this v f a b la lb h =
        elim (cases_eq h.place k) [
          | inl e ↦ (let same : new ≡ h.exit = same_Some new h.exit
              (sym (written exits new old k at) ∙ ap (slice_get (slice_set exits k new)) (sym e)
              ∙ h.there) in
              let of_value : value ≡ v = sym worth ∙ ap (λ (z : ExitPlane). z.value) same ∙ h.worth in
              let of_freedom : free ≡ f =
              sym freedom ∙ ap (λ (z : ExitPlane). z.free) same ∙ h.freedom in
              elim (or_cases (a == x && b == y) (has_pair old.plane a b)
              (sym (is a b la lb) ∙ ap (λ (z : ExitPlane). has_pair z.plane a b) same ∙ h.pair)) [
                | inl that ↦ (let pair = is_that a b x y that in
                    inr (record {
                      same_worth = of_value;
                      same_freedom = of_freedom;
                      same_white = pair.0;
                      same_black = pair.1;
                    }))
                | inr before ↦ inl (record {
                  place = k;
                  exit = old;
                  there = at;
                  worth = old_worth ∙ of_value;
                  freedom = old_freedom ∙ of_freedom;
                  pair = before;
                })
              ])
          | inr ne ↦ inl (record {
            place = h.place;
            exit = h.exit;
            there = sym (unwritten exits new k h.place ne) ∙ h.there;
            worth = h.worth;
            freedom = h.freedom;
            pair = h.pair;
          })
        ]

    pub added_there : Adds exits (slice_set exits k new) (IsPair value free x y)
    added_there = record {
      kept = still;
      added = λ v f a b la lb h. record {
        place = k;
        exit = new;
        there = written exits new old k at;
        worth = worth ∙ h.same_worth;
        freedom = freedom ∙ h.same_freedom;
        pair = is a b la lb
            ∙ or_left (a == x && b == y) (has_pair old.plane a b)
            (that_is a b x y h.same_white h.same_black);
      };
      only = only_this;
    }
