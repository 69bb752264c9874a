use Rattle.std.proofs.Common.{◌≡◌, ◌≤◌, length, take}
use Rattle.std.specs.List.{filter_map}
use Rattle.frz_worked.specs.Ten.{arm_from}
use Rattle.frz_worked.specs.declared.ten.TheConstants.{EDGES}
use Rattle.frz_worked.proofs.ten.TenNumberedGame.nexts_by.Given as goal

abbrev pub invariant-loop-edge : goal.invariant-loop-edge
invariant-loop-edge g l = record {
  items : l.lists.nexts.items ≡ filter_map (arm_from l.i) (take l.edge-index EDGES);
  few : length l.lists.nexts.items ≤ l.edge-index;
}
