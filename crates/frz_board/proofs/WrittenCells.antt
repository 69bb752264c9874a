-- A cell after a write.
use Rattle.std.proofs.Common.{◌≡◌, ℕ, ◌<◌, List, length, slice_index, slice_set, get_or-set_same, get_or-set_other, inl, inr}
use Rattle.std.specs.Prelude.{◌==◌, if◌then◌else◌}
use Rattle.std.proofs.lemmas.Bool.Decides.{eqb_tells}

pub set_at : (xs : List ℕ) (i v j : ℕ) → i < length xs →
    slice_index (slice_set xs i v) j ≡ (if j == i then v else slice_index xs j)
set_at xs i v j h =
    elim (eqb_tells j i) [
      | inl w ↦ rw w.0 (rw w.1 (get_or-set_same xs i v 0 h))
      | inr w ↦ rw w.0 (get_or-set_other xs i j v 0 w.1)
    ]
