use Rattle.frz_index.specs.OldDigits.{ArePlaced}
use Rattle.frz_index.proofs.old.with_places.Given as goal

abbrev pub invariant-loop-k : goal.invariant-loop-k
invariant-loop-k l = ArePlaced l.p l.colour l.states l.least l.most l.start l.k l.count l.number
