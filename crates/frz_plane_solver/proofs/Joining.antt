-- Planes joined one after another.
use Rattle.std.proofs.Common.{◌≡◌, ◌≤◌, ◌<◌, ◌+◌, ◌∙◌, ◌||◌, ℕ, Bool, true, false, List, [], length, slice_set, refl, ap, sym, arith}
use Rattle.std.proofs.lemmas.List.{get_or-set_other}
use Rattle.frz_planes.specs.Planes.{IsPlaneOf, has_pair}
use Rattle.frz_plane_game.specs.Spots.{plane_at}
use Rattle.frz_plane_solver.proofs.Filling.{filled_more, filled_on}
use Rattle.frz_plane_solver.proofs.Marks.{no_pair}

-- the first n planes are joined with the others, and the rest is as it was
pub record AreJoined (old more : List (List ℕ)) (n : ℕ) (planes : List (List ℕ)) : Type 0 where
  pub joined : (k : ℕ) → k < n → IsPlaneOf (plane_at planes k)
      (λ a b. has_pair (plane_at old k) a b || has_pair (plane_at more k) a b)
  pub rest : (k : ℕ) → n ≤ k → plane_at planes k ≡ plane_at old k

or_nothing : (x : Bool) → (x || false) ≡ x
or_nothing true = refl
or_nothing false = refl

module _ (old more planes : List (List ℕ)) (n : ℕ) (h : AreJoined old more n planes) where
  abbrev IsJoined : ℕ → List ℕ → Type 0
  IsJoined k plane =
      IsPlaneOf plane (λ a b. has_pair (plane_at old k) a b || has_pair (plane_at more k) a b)

  pub joined_more : (plane : List ℕ) → n < length planes →
      IsPlaneOf plane (λ a b. has_pair (plane_at planes n) a b || has_pair (plane_at more n) a b) →
      AreJoined old more (n + 1) (slice_set planes n plane)
  joined_more plane inside union = record {
    joined = filled_more IsJoined planes n plane inside h.joined
        (λ a b la lb. union a b la lb
        ∙ ap (λ (p : List ℕ). has_pair p a b || has_pair (plane_at more n) a b)
        (h.rest n (omega arith)));
    rest = λ k l. get_or-set_other planes n k plane [] (omega arith) ∙ h.rest k (omega arith);
  }

  pub joined_none : plane_at more n ≡ [] → AreJoined old more (n + 1) planes
  joined_none none = record {
    joined = filled_on IsJoined planes planes n (λ k other. refl) h.joined
        (λ a b la lb. ap (λ (p : List ℕ). has_pair p a b) (h.rest n (omega arith))
        ∙ sym (ap (λ (p : List ℕ). has_pair (plane_at old n) a b || has_pair p a b) none
        ∙ ap (λ (t : Bool). has_pair (plane_at old n) a b || t) (no_pair a b)
        ∙ or_nothing (has_pair (plane_at old n) a b)));
    rest = λ k l. h.rest k (omega arith);
  }
