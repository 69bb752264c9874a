use Rattle.std.proofs.Common.{ℕ, List, arith}
use Rattle.std.proofs.lemmas.Result.{err_from_is_err_and}
use Rattle.frz_fen.specs.Reading.{fen_of}
use Rattle.frz_answer.specs.Jobs.{Job}
use Rattle.frz_answer.proofs.Lemmas.{as_given}
use Rattle.frz_prelude.specs.Positions.{on_position}
use Rattle.frz_prelude.proofs.Lemmas.{at_position, no_position, not_taken, replied, taken}
use Rattle.frz_commands_chess.specs.Moving.{moving}
use Rattle.frz_commands_chess.proofs.MoveOnce.{own_reply}
use Rattle.frz_commands_chess.proofs.moving.make_move.Goals as goal

abbrev by_words : List ℕ × List ℕ → Job
by_words words = on_position (moving words.1) (fen_of words.0)

pub returns-in_err-fen : goal.returns-in_err-fen
returns-in_err-fen g c = λ store.
    let p = err_from_is_err_and c.from_residual.result c.from_residual.ensures.1 in
    rw (p.1, p.2) (not_taken by_words _ c.in_err-fen.ensures)

pub returns-in_err-p : goal.returns-in_err-p
returns-in_err-p g c = λ store.
    let p = err_from_is_err_and c.from_residual-in_err-p.result
    c.from_residual-in_err-p.ensures.1 in
    rw (p.1, p.2)
    (taken by_words _ c.in_ok-fen.ensures
    (no_position (moving c.in_ok-fen.san.now) _ c.in_err-p.ensures.found))

pub returns : goal.returns
returns g c = λ store.
    let e = c.move_at.ensures in
    taken by_words _ c.in_ok-fen.ensures
    (at_position (moving c.in_ok-fen.san.now) _ c.in_ok-p.ensures.found
    (replied (moving c.in_ok-fen.san.now c.in_ok-p.p) c.move_at.result store _ _ e.later
    (own_reply _ _ _ e.moved)
    (λ files left input out agrees. record {
      found = as_given _ files left _ agrees;
      answer = e.moved files;
      costs = record { steps = e.few; calls = omega arith; asked = omega arith };
    })))
