use Rattle.std.proofs.Common.{◌≡◌, drop}
use Rattle.frz_index.specs.FixedMen.{are_fixed_free, put_fixed}
use Rattle.frz_index.proofs.fixed.put_fixed.Given as goal

abbrev pub invariant-loop-i : goal.invariant-loop-i
invariant-loop-i l = record {
  put : record l.p { cells = put_fixed (drop l.i l.groups) l.p.cells }
      ≡ record l.fn.p { cells = put_fixed l.groups l.fn.p.cells };
  free : are_fixed_free (drop l.i l.groups) l.p.cells ≡ are_fixed_free l.groups l.fn.p.cells;
}
