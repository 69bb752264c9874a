use Rattle.std.proofs.Common.{◌-◌, arith, bit_and, bit_or, get_or, length-set}
use Rattle.frz_planes.specs.declared.masks.TheConstants.{BEHIND_FILE_A}
use Rattle.frz_planes.proofs.Shifts.{one_more, file_on}
use Rattle.frz_planes.proofs.plane.Plane.join_file_on.Goals as goal

pub loop-i-preserved : goal.loop-i-preserved
loop-i-preserved c = (
  one_more (λ k v. bit_or v (bit_and (get_or c.other.inside.0 (k - 1) 0) (get_or BEHIND_FILE_A k 0))) 1
      c.loop-i.i c.self.inside.0 c.loop-i.self-inside.0 (omega arith)
      (omega (arith, c.loop-i.invariant.1)) c.loop-i.invariant.0,
  rw length-set c.loop-i.invariant.1,
)

pub returns : goal.returns
returns c =
    rw (← c.self.view_is, ← c.other.view_is)
    (file_on c.self.inside.0 c.other.inside.0 c.loop-i.i c.loop-i.self-inside.0
    (omega arith) c.loop-i.invariant.0)
