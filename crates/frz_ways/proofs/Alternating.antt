-- In the game of rules the sides move in turn.
use Rattle.std.proofs.Common.{◌≡◌, ap, true}
use Rattle.frz_board.specs.Boards.{Board}
use Rattle.frz_board.specs.Men.{other_of}
use Rattle.frz_board.specs.Moving.{Step}
use Rattle.frz_fide.specs.Legal.{after, after_man, is_legal}
use Rattle.frz_fide.proofs.Lemmas.{facts}

pub turn_after : (p : Board) (m : Step) → is_legal p m ≡ true → (after p m).turn ≡ other_of p.turn
turn_after p m legal = ap (λ o. (after_man p o m).turn) (facts p m legal).on
