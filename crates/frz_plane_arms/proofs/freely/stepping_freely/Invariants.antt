use Rattle.frz_plane_arms.proofs.FreeSteps.{AreStepped}
use Rattle.frz_plane_arms.proofs.freely.stepping_freely.Given as goal

abbrev pub invariant-loop-s : goal.invariant-loop-s
invariant-loop-s l = AreStepped l.lines l.turn l.before l.after l.bound l.s l.pairs
