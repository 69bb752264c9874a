use Rattle.frz_pair_moves.proofs.KingsGo.{legal_white, white_after, white_legal}
use Rattle.frz_pair_moves.proofs.laws.moves_of_white_king.Goals as goal

pub returns-clause-legal : goal.returns-clause-legal
returns-clause-legal x p m b step lb white made = (
  white_legal p m b step lb white made,
  λ h. legal_white p m b step lb white made h.0 h.1,
)

pub returns-clause-after : goal.returns-clause-after
returns-clause-after x p m b step lb white made goes apart =
    white_after p m b step lb white made goes apart
