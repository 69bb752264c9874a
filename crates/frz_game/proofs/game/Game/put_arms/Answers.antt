use Rattle.std.proofs.Common.{◌∙◌}
use Rattle.frz_game.proofs.game.Game.put_arms.Goals as goal
use Rattle.frz_fide.proofs.Lemmas.{legal_at}

pub arm-requires-clause-legal : goal.arm-requires-clause-legal
arm-requires-clause-legal g c =
    legal_at c.args.p.now c.as_slice-m-items.result.now c.loop-m.m-index c.m-item.result
    (c.as_slice-m-items.ensures.value ∙ c.requires.moves) c.loop-m-test.true c.m-item.is
