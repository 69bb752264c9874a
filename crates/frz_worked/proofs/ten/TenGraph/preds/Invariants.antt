use Rattle.std.proofs.Common.{◌≡◌, ◌≤◌, length, take}
use Rattle.std.specs.List.{filter_map}
use Rattle.frz_worked.specs.Ten.{pred_to}
use Rattle.frz_worked.specs.declared.ten.TheConstants.{EDGES}
use Rattle.frz_worked.proofs.ten.TenGraph.preds.Given as goal

abbrev pub invariant-loop-edge : goal.invariant-loop-edge
invariant-loop-edge g l = record {
  items : l.out ≡ filter_map (pred_to l.q) (take l.edge-index EDGES);
  few : length l.out ≤ l.edge-index;
}
