use Rattle.std.proofs.Common.{◌≡◌, drop, map}
use Rattle.frz_combinations.specs.MixedRadix.{digits}
use Rattle.frz_index.specs.FixedMen.{are_loose_free, put_loose}
use Rattle.frz_sets.specs.Sets.{radix_of}
use Rattle.frz_index.proofs.digits.put_loose.Given as goal

abbrev pub invariant-loop-i : goal.invariant-loop-i
invariant-loop-i l = record {
  put : record l.p {
    cells = put_loose (drop l.i l.groups)
        (digits (map radix_of (drop l.i l.groups)) l.rest) l.p.cells;
  }
      ≡ record l.fn.p {
        cells = put_loose l.groups (digits (map radix_of l.groups) l.number)
            l.fn.p.cells;
      };
  free : are_loose_free (drop l.i l.groups)
      (digits (map radix_of (drop l.i l.groups)) l.rest) l.p.cells
      ≡ are_loose_free l.groups (digits (map radix_of l.groups) l.number) l.fn.p.cells;
}
