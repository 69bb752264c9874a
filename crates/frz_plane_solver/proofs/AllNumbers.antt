-- The planes of all configurations, as sets of numbers.
use Rattle.std.proofs.Common.{◌≡◌, ◌↔◌, ◌⊎◌, ◌<◌, ◌||◌, ℕ, true, List, inl, inr, refl, ap, sym, subst}
use Rattle.std.proofs.lemmas.Bool.{cases_Bool}
use Rattle.frz_planes.specs.Planes.{IsPlaneOf, has_pair}
use Rattle.frz_plane_game.specs.Spots.{AreSpots, HaveNumbers, Spot, Spots, has_spot, plane_at}
use Rattle.frz_plane_solver.proofs.Numbers.{numbers_joined, same_numbers}

-- a number is in the planes of P exactly where P holds
pub in_planes : (spots : Spots) → AreSpots spots → (planes : List (List ℕ)) (P : ℕ → Type 0) →
    HaveNumbers spots planes P → (i : ℕ) → i < spots.numbers →
    (has_spot planes (spots.at i) ≡ true) ↔ P i
in_planes spots are planes P have i inside =
    (have (spots.at i).configuration (are.configuration i inside)).there i inside refl

-- so it can be told
pub told_by_planes : (spots : Spots) → AreSpots spots → (planes : List (List ℕ)) (P : ℕ → Type 0) →
    HaveNumbers spots planes P → (i : ℕ) → i < spots.numbers → P i ⊎ (P i → ⊥)
told_by_planes spots are planes P have i inside =
    let both = in_planes spots are planes P have i inside in
    elim (cases_Bool (has_spot planes (spots.at i))) [
      | inl is_so ↦ inl (both.0 is_so)
      | inr is_not ↦ inr (λ p. (let is_so = both.1 p in cc))
    ]

-- a pair of a plane is a number of which P holds
pub pair_found : (spots : Spots) (planes : List (List ℕ)) (P : ℕ → Type 0) →
    HaveNumbers spots planes P → (c a b : ℕ) → c < spots.configurations → a < 64 → b < 64 →
    has_pair (plane_at planes c) a b ≡ true → (i : ℕ) × (i < spots.numbers) × P i
pair_found spots planes P have c a b inside m n there =
    let spot = (have c inside).only a b m n there in
    let k = spot.number in (
      k,
      spot.inside,
      ((have c inside).there k spot.inside (ap (λ (s : Spot). s.configuration) spot.here)).0
          (subst (λ (s : Spot). has_pair (plane_at planes c) s.white s.black ≡ true)
          (sym spot.here) there),
    )

-- planes joined one by one
pub all_joined : (spots : Spots) → AreSpots spots → (old more new : List (List ℕ))
    (P Q R : ℕ → Type 0) → ((i : ℕ) → i < spots.numbers → (P i ⊎ Q i) ↔ R i) →
    HaveNumbers spots old P → HaveNumbers spots more Q →
    ((c : ℕ) → c < spots.configurations → IsPlaneOf (plane_at new c)
    (λ a b. has_pair (plane_at old c) a b || has_pair (plane_at more c) a b)) →
    HaveNumbers spots new R
all_joined spots are old more new P Q R both one other joined c inside =
    same_numbers spots c (plane_at new c) (λ i. P i ⊎ Q i) R (λ i l e. both i l)
    (numbers_joined spots are c (plane_at old c) (plane_at more c) (plane_at new c) P Q
    (one c inside) (other c inside) (joined c inside))
