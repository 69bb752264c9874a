use Rattle.frz_board.specs.Men.{other_of}
use Rattle.frz_arena.proofs.laws.plies.one_winner.Goals as goal

pub returns : goal.returns
returns g c arena law side n m p w v =
    c.never_both.ensures arena (other_of side) m n p v
    (c.opponent_fails.ensures arena law side n p w)
