use Rattle.std.proofs.Common.{◌≡◌}
use Rattle.frz_configurations.specs.Configurations.{others}
use Rattle.frz_kingless.proofs.OneGroupMore.{free_by, others_from, put_by, weight_of}
use Rattle.frz_kingless.proofs.finding.put_others.Given as goal

abbrev pub invariant-loop-k : goal.invariant-loop-k
invariant-loop-k l = record {
  weight : l.weight ≡ weight_of l.configurations.rules.now.groups l.k;
  put : record l.p { cells = put_by (others_from l.configurations.rules.now.groups l.k) l.rest l.p.cells }
      ≡ record l.fn.p {
        cells = put_by (others l.configurations.rules.now.groups) l.fn.number l.fn.p.cells;
      };
  free : free_by (others_from l.configurations.rules.now.groups l.k) l.rest l.p.cells
      ≡ free_by (others l.configurations.rules.now.groups) l.fn.number l.fn.p.cells;
}
