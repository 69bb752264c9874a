-- The planes of exits that count, gathered one by one.
use Rattle.std.proofs.Common.{◌≡◌, ◌↔◌, ◌⊎◌, ◌∙◌, ℕ, ◌+◌, ◌<◌, ◌≤◌, ◌||◌, Bool, true, false, Some, List, length, inl, inr, refl, ap, sym, subst, arith}
use Rattle.std.specs.List.{slice_get}
use Rattle.std.proofs.lemmas.Bool.{cases_lt, or_cases}
use Rattle.std.proofs.lemmas.Option.{same_Some, slice_get_within}
use Rattle.frz_sets.specs.declared.exit.Value.{Value}
use Rattle.frz_planes.specs.Planes.{IsPlaneOf, has_pair}
use Rattle.frz_plane_exits.specs.declared.exit_plane.ExitPlane.{ExitPlane}
use Rattle.frz_plane_chess.specs.Counted.{AreExitsWhere, Counts, HasExitWhere}

-- one of the first k exits
pub record HasExitBelow (exits : List ExitPlane) (only_free : Bool) (P : Value → Type 0) (k : ℕ)
    (a b : ℕ) : Type 0 where
  pub exit : HasExitWhere exits only_free P a b
  pub below : exit.exit.place < k

abbrev pub AreGathered : List ExitPlane → Bool → (Value → Type 0) → ℕ → List ℕ → Type 0
AreGathered exits only_free P k plane =
    (a b : ℕ) → a < 64 → b < 64 →
    (has_pair plane a b ≡ true) ↔ HasExitBelow exits only_free P k a b

either_of : (x y : Bool) → (x ≡ true) ⊎ (y ≡ true) → (x || y) ≡ true
either_of true y e = refl
either_of false y (inl e) = absurd cc
either_of false y (inr e) = e

module _ (exits : List ExitPlane) (only_free : Bool) (P : Value → Type 0) where
  pub none_gathered : (plane : List ℕ) → IsPlaneOf plane (λ a b. false) →
      AreGathered exits only_free P 0 plane
  none_gathered plane empty a b la lb = (
    λ t. absurd (let f = empty a b la lb in cc),
    λ h. absurd (let l = h.below in omega arith),
  )

  wider : (k a b : ℕ) → HasExitBelow exits only_free P k a b →
      HasExitBelow exits only_free P (k + 1) a b
  wider k a b h = record { exit = h.exit; below = (let l = h.below in omega arith) }

  -- the exit at k counts, or it is one before it
  last_or_before : (k a b : ℕ) (exit : ExitPlane) → slice_get exits k ≡ Some exit →
      HasExitBelow exits only_free P (k + 1) a b →
      HasExitBelow exits only_free P k a b
      ⊎ (Counts only_free P exit × (has_pair exit.plane a b ≡ true))
  last_or_before k a b exit at h =
      elim (cases_lt h.exit.exit.place k) [
        | inl low ↦ inl (record { exit = h.exit; below = low })
        | inr high ↦ (
            let there = h.exit.exit in
            let place : there.place ≡ k = (let l = h.below in omega arith) in
            let is : there.exit ≡ exit = same_Some there.exit exit
            (sym there.there ∙ ap (λ (j : ℕ). slice_get exits j) place ∙ at) in
            let free : h.exit.freedom ≡ exit.free =
            sym there.freedom ∙ ap (λ (x : ExitPlane). x.free) is in
            let worth : h.exit.outcome ≡ exit.value =
            sym there.worth ∙ ap (λ (x : ExitPlane). x.value) is in
            inr (
              (λ e. sym free ∙ h.exit.free e, subst P worth h.exit.worth),
              subst (λ (x : ExitPlane). has_pair x.plane a b ≡ true) is there.pair,
            ))
      ]

  pub one_gathered : (k : ℕ) (exit : ExitPlane) (old new : List ℕ) →
      slice_get exits k ≡ Some exit → Counts only_free P exit →
      AreGathered exits only_free P k old →
      IsPlaneOf new (λ a b. has_pair old a b || has_pair exit.plane a b) →
      AreGathered exits only_free P (k + 1) new
  one_gathered k exit old new at counts before plane a b la lb =
      let is = plane a b la lb in (
        λ t. elim (or_cases (has_pair old a b) (has_pair exit.plane a b) (sym is ∙ t)) [
          | inl o ↦ wider k a b ((before a b la lb).0 o)
          | inr here ↦ record {
            exit = record {
              outcome = exit.value;
              freedom = exit.free;
              exit = record {
                place = k;
                exit = exit;
                there = at;
                worth = refl;
                freedom = refl;
                pair = here;
              };
              free = counts.0;
              worth = counts.1;
            };
            below = omega arith;
          }
        ],
        λ h. is ∙ either_of (has_pair old a b) (has_pair exit.plane a b)
            (elim (last_or_before k a b exit at h) [
              | inl o ↦ inl ((before a b la lb).1 o)
              | inr here ↦ inr here.1
            ]),
      )

  pub none_more : (k : ℕ) (exit : ExitPlane) (plane : List ℕ) → slice_get exits k ≡ Some exit →
      (Counts only_free P exit → ⊥) → AreGathered exits only_free P k plane →
      AreGathered exits only_free P (k + 1) plane
  none_more k exit plane at not_counted before a b la lb = (
    λ t. wider k a b ((before a b la lb).0 t),
    λ h. elim (last_or_before k a b exit at h) [
      | inl o ↦ (before a b la lb).1 o
      | inr here ↦ absurd (not_counted here.0)
    ],
  )

  pub all_gathered : (k : ℕ) (plane : List ℕ) → length exits ≤ k →
      AreGathered exits only_free P k plane → AreExitsWhere exits only_free P plane
  all_gathered k plane end before a b la lb = (
    λ t. ((before a b la lb).0 t).exit,
    λ h. (before a b la lb).1 (record {
      exit = h;
      below = (let l = slice_get_within exits h.exit.place h.exit.exit h.exit.there in omega arith);
    }),
  )
