use Rattle.std.proofs.Common.{◌≡◌, false}
use Rattle.std.specs.Prelude.{take}
use Rattle.std.specs.List.{list_any}
use Rattle.frz_index.specs.Room.{takes_one_more}
use Rattle.frz_index.proofs.room.any_unfilled.Given as goal

abbrev pub invariant-loop-i : goal.invariant-loop-i
invariant-loop-i l = list_any (takes_one_more l.p l.man l.s) (take l.i l.groups) ≡ false
