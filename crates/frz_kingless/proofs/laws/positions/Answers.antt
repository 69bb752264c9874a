use Rattle.std.proofs.Common.{[]}
use Rattle.frz_kingless.proofs.KingGroups.{has_number, king_on_board}
use Rattle.frz_kingless.proofs.OnlyPosition.{are_empty, is_that}
use Rattle.frz_kingless.proofs.laws.positions.Goals as goal

pub returns-clause-there : goal.returns-clause-there
returns-clause-there x r p i c a b sound board split free v =
    has_number p a b board.fits.size
    (king_on_board _ a [] r.groups split.ds sound.lines.groups split.white)
    (king_on_board _ b [] r.groups split.ds sound.lines.groups split.black)
    free v r i c sound board split

pub returns-clause-only : goal.returns-clause-only
returns-clause-only x r p q i c a b sound board split number = (
  are_empty r q i c a b sound split number p board,
  is_that r q i c a b sound split number p board,
)
