use Rattle.std.proofs.Common.{take}
use Rattle.frz_arena.specs.Best.{IsBest}
use Rattle.frz_arena.proofs.local.turn_code.Given as goal

abbrev pub invariant-loop-code : goal.invariant-loop-code
invariant-loop-code l = IsBest l.own (take l.code-index l.codes) l.best
