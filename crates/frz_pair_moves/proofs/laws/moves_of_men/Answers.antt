use Rattle.frz_pair_moves.proofs.MenMoved.{legal_man, man_legal, moved_alike}
use Rattle.frz_pair_moves.proofs.MenSafe.{legal_by_attack}
use Rattle.frz_pair_moves.proofs.laws.moves_of_men.Goals as goal

pub returns-clause-legal : goal.returns-clause-legal
returns-clause-legal x p m a b step la lb made own =
    (legal_man p m a b step la lb made own, man_legal p m a b step la lb made)

pub returns-clause-after : goal.returns-clause-after
returns-clause-after x p m a b step la lb made can leaves =
    moved_alike p m a b step la lb made can leaves

pub returns-clause-safe : goal.returns-clause-safe
returns-clause-safe x p m a b step la lb made can leaves =
    legal_by_attack p m a b step la lb made can leaves
