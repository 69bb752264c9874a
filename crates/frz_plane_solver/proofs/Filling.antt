-- Planes filled one after another.
use Rattle.std.proofs.Common.{◌≡◌, ◌≢◌, ◌<◌, ◌+◌, ℕ, List, [], length, get_or, slice_set, inl, inr, sym, subst, arith}
use Rattle.std.proofs.lemmas.Bool.{cases_lt}
use Rattle.std.proofs.lemmas.List.{get_or-set_same, get_or-set_other}
use Rattle.std.proofs.lemmas.Option.{get_or_from_slice_get, slice_get-get_or}
use Rattle.frz_plane_game.specs.Spots.{plane_at}

-- what holds of the planes before one holds with that one, if all others stay
pub filled_on : (Q : ℕ → List ℕ → Type 0) (old new : List (List ℕ)) (c : ℕ) →
    ((k : ℕ) → k ≢ c → plane_at new k ≡ plane_at old k) →
    ((k : ℕ) → k < c → Q k (plane_at old k)) → Q c (plane_at new c) →
    (k : ℕ) → k < c + 1 → Q k (plane_at new k)
filled_on Q old new c others before here k l =
    elim (cases_lt k c) [
      | inl below ↦ subst (Q k) (sym (others k (omega arith))) (before k below)
      | inr above ↦ (let same : c ≡ k = omega arith in
          subst (λ (z : ℕ). Q z (plane_at new z)) same here)
    ]

-- so it does with a plane that is replaced
pub filled_more : (Q : ℕ → List ℕ → Type 0) (planes : List (List ℕ)) (c : ℕ) (plane : List ℕ) →
    c < length planes → ((k : ℕ) → k < c → Q k (plane_at planes k)) → Q c plane →
    (k : ℕ) → k < c + 1 → Q k (plane_at (slice_set planes c plane) k)
filled_more Q planes c plane inside before here =
    filled_on Q planes (slice_set planes c plane) c
    (λ k other. get_or-set_other planes c k plane [] other) before
    (subst (Q c) (sym (get_or-set_same planes c plane [] inside)) here)

-- inside a list it does not matter what would stand past its end
pub same_plane : (planes : List (List ℕ)) (c : ℕ) (d : List ℕ) → c < length planes →
    get_or planes c d ≡ plane_at planes c
same_plane planes c d inside =
    sym (get_or_from_slice_get planes c (get_or planes c d) [] (slice_get-get_or planes c d inside))
