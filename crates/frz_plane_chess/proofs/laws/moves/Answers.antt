use Rattle.frz_index.proofs.Lemmas.{of_member}
use Rattle.frz_plane_chess.proofs.Legal.{found, found_by, is_outside, next_inside, next_outside}
use Rattle.frz_plane_chess.proofs.laws.moves.Goals as goal

pub returns-clause-inside : goal.returns-clause-inside
returns-clause-inside x r value q m = next_inside r value q (of_member r.groups q m)

pub returns-clause-outside : goal.returns-clause-outside
returns-clause-outside x r value q none = next_outside r value q (is_outside r q none)

pub returns-clause-arms : goal.returns-clause-arms
returns-clause-arms x r value p i c a b sound board split arm = (
  found r value p i c a b sound board split arm,
  λ h. found_by r value p i c a b sound board split arm h.0 h.1,
)
