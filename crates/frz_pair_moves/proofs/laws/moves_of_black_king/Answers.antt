use Rattle.frz_pair_moves.proofs.KingsGo.{legal_black, black_after, black_legal}
use Rattle.frz_pair_moves.proofs.laws.moves_of_black_king.Goals as goal

pub returns-clause-legal : goal.returns-clause-legal
returns-clause-legal x p m a step la black made = (
  black_legal p m a step la black made,
  λ h. legal_black p m a step la black made h.0 h.1,
)

pub returns-clause-after : goal.returns-clause-after
returns-clause-after x p m a step la black made goes apart =
    black_after p m a step la black made goes apart
