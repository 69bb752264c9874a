use Rattle.std.proofs.Common.{arith}
use Rattle.frz_retro.proofs.DueSteps.{due_over}
use Rattle.frz_retro.proofs.due.settle_late.Goals as goal

pub returns-then-last-k-clause-kept : goal.returns-then-last-k-clause-kept
returns-then-last-k-clause-kept g c mid done w =
    due_over (g.G.NumberedGame.count c.args.graph.now) w
    (λ i l. let x = c.requires.last i l in let y = c.if-last-k.true in omega (arith, x, y))
