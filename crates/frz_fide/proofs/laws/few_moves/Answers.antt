use Rattle.std.proofs.Common.{◌≤◌, List, length, subst}
use Rattle.frz_board.specs.Moving.{Step}
use Rattle.frz_fide.proofs.BySquares.{by_squares}
use Rattle.frz_fide.proofs.Room.{legal_room}
use Rattle.frz_fide.proofs.laws.few_moves.Goals as goal

pub returns : goal.returns
returns c p valid =
    subst (λ (ms : List Step). length ms ≤ 1024) (by_squares p) (legal_room p valid)
