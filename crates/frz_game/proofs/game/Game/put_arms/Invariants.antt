use Rattle.std.proofs.Common.{◌≡◌, map, take}
use Rattle.frz_game.specs.Games.{arm_at}
use Rattle.frz_game.proofs.game.Game.put_arms.Given as goal

abbrev pub invariant-loop-m : goal.invariant-loop-m
invariant-loop-m g l =
    l.list.items ≡ map (arm_at l.self.rules.now (g.B.ExitBook.value_at l.self.book.now) l.p)
    (take l.m-index l.m-items)
