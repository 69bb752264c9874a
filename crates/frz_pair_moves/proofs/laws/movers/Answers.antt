use Rattle.frz_pair_moves.proofs.Movers.{mover_is}
use Rattle.frz_pair_moves.proofs.laws.movers.Goals as goal

pub returns : goal.returns
returns x p m a b step la lb made h = mover_is p m a b la lb made h
