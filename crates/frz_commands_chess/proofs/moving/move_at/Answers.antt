use Rattle.std.proofs.Common.{refl, subst, sym, ap, ◌∙◌, List, ℕ}
use Rattle.frz_board.specs.Boards.{Board}
use Rattle.frz_answer.specs.Answers.{says}
use Rattle.frz_answer.specs.declared.status.Status.TheVariants.{Success}
use Rattle.frz_fen.specs.Writing.{fen_text}
use Rattle.frz_fide.specs.Legal.{after}
use Rattle.frz_prelude.specs.Replies.{moved_lines}
use Rattle.frz_san.specs.Notation.{IsSan}
use Rattle.frz_commands_chess.specs.Moving.{moved, no_move}
use Rattle.frz_commands_chess.proofs.moving.move_at.Goals as goal

pub returns-in-Some-clause-moved : goal.returns-in-Some-clause-moved
returns-in-Some-clause-moved g c = λ files.
    let m = c.in-Some.m in
    let read = (c.in-Some.ensures.exact m).0 refl in
    let fen = c.write_fen.ensures.text ∙ ap fen_text (c.position.ensures ∙ c.after.ensures.position
    ∙ ap (λ (b : Board). after b m) c.of.ensures) in
    moved m read.0 read.1 (subst (IsSan c.args.p.now m) c.as_bytes.ensures.value read.2)
    (ap (λ (l : List ℕ). says Success (moved_lines m l) files) fen)

pub returns-in-None-clause-moved : goal.returns-in-None-clause-moved
returns-in-None-clause-moved g c = λ files.
    no_move (λ m step legal t. let read = (c.in-None.ensures.exact m).1
    (step, legal, subst (IsSan c.args.p.now m) (sym c.as_bytes.ensures.value) t) in cc) refl
