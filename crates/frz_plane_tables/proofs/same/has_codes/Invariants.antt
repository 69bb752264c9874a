use Rattle.std.proofs.Common.{◌≡◌, ◌<◌, ℕ, slice_index}
use Rattle.frz_plane_tables.proofs.same.has_codes.Given as goal

-- the codes are the same so far
abbrev pub invariant-loop-i : goal.invariant-loop-i
invariant-loop-i g l =
    (k : ℕ) → k < l.i
    → slice_index (g.E.Entries.codes l.entries l.side) k ≡ slice_index l.codes k
