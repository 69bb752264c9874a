use Rattle.frz_plane_exits.specs.Adding.{Adds}
use Rattle.frz_plane_exits.proofs.AllKings.{KingBelow}
use Rattle.frz_plane_exits.proofs.exits.add_kings.Given as goal

-- the exits of the king's steps to the squares below n were added
abbrev pub invariant-loop-n : goal.invariant-loop-n
invariant-loop-n g l =
    Adds l.fn.exits.items l.exits.items
    (KingBelow l.configurations.rules.now (g.B.ExitBook.value_at l.book) l.p l.n)
