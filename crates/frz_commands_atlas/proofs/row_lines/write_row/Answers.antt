use Rattle.std.proofs.Common.{map, subst}
use Rattle.frz_board.specs.Boards.{Board}
use Rattle.frz_fide.specs.Legal.{after}
use Rattle.frz_store.specs.Told.{sink_of}
use Rattle.frz_atlas.specs.FileOn.{loaded_back}
use Rattle.frz_answer.specs.Texts.{WroteText}
use Rattle.frz_answer.proofs.Lemmas.{failed_first, gave_up, wrote_next}
use Rattle.frz_commands_atlas.specs.FirstBack.{found_behind}
use Rattle.frz_commands_atlas.specs.RowLines.{behind_text}
use Rattle.frz_commands_atlas.proofs.row_lines.write_row.Goals as goal

pub returns-in_err-write_piece-clause-wrote : goal.returns-in_err-write_piece-clause-wrote
returns-in_err-write_piece-clause-wrote g c =
    gave_up c.from_residual.ensures.0 (failed_first _
    (rw (c.as_bytes.ensures.value, c.deref.ensures.0, c.san_among.ensures.text)
    at c.in_err-write_piece.ensures.failed))

pub returns-clause-wrote : goal.returns-clause-wrote
returns-clause-wrote g c =
    let own = c.args.behind.now in
    wrote_next
    (rw (c.as_bytes.ensures.value, c.deref.ensures.0, c.san_among.ensures.text)
    at c.in_ok-write_piece.ensures.ok)
    (subst (λ (q : Board). WroteText (behind_text (found_behind own.leans own.rules.now
    (map loaded_back own.backs.now) (after q c.args.row.arm.mv)) c.args.row) c.write_behind.result
    (sink_of g.O.Sink c.write_piece.new.out) (sink_of g.O.Sink c.write_behind.new.out)) c.of.ensures
    c.write_behind.ensures)
