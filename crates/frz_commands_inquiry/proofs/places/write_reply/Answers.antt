use Rattle.std.proofs.Common.{◌≡◌, ◌∙◌, ◌++◌, ap, subst, List, ℕ, map, codes, Ok}
use Rattle.frz_board.specs.Boards.{Board}
use Rattle.frz_fen.specs.Reading.{fen_of}
use Rattle.frz_store.specs.Told.{sink_of}
use Rattle.frz_answer.specs.Texts.{WroteText}
use Rattle.frz_answer.proofs.Lemmas.{failed_first, gave_up, wrote_next}
use Rattle.frz_atlas.specs.Books.{Back}
use Rattle.frz_atlas.specs.FileOn.{loaded_back}
use Rattle.frz_atlas.specs.Links.{Link}
use Rattle.frz_atlas.specs.Loaded.{link_loaded}
use Rattle.frz_commands_inquiry.specs.Places.{place_text, read_text, reply_to}
use Rattle.frz_commands_inquiry.specs.Trimmed.{trimmed}
use Rattle.frz_commands_inquiry.proofs.places.write_reply.Goals as goal

-- a line that names a position is answered by what is known of it
named : (own : Link) (backs : List Back) (line text : List ℕ) (p : Board) → Ok p ≡ fen_of text
    → text ≡ trimmed line → place_text own backs p ++ codes "\n" ≡ reply_to own backs line ++ codes "\n"
named own backs line text p read is =
    ap (λ o. read_text own backs o ++ codes "\n") (read ∙ ap fen_of is)

pub returns-in_err-write_place-in-Ok : goal.returns-in_err-write_place-in-Ok
returns-in_err-write_place-in-Ok g c =
    subst (λ (x : List ℕ). WroteText x c.from_residual.result (sink_of g.O.Sink c.args.out.now)
    (sink_of g.O.Sink c.write_place.new.out))
    (named (link_loaded c.args.own.now) (map loaded_back c.args.backs.now) c.args.line.now
    c.trimmed.result.now c.in-Ok.p c.in-Ok.ensures.read c.trimmed.ensures)
    (gave_up c.from_residual.ensures.0
    (failed_first _ c.in_err-write_place-in-Ok.ensures.failed))

pub returns-in_ok-write_place-in-Ok : goal.returns-in_ok-write_place-in-Ok
returns-in_ok-write_place-in-Ok g c =
    subst (λ (x : List ℕ). WroteText x c.write_piece.result (sink_of g.O.Sink c.args.out.now)
    (sink_of g.O.Sink c.write_piece.new.out))
    (named (link_loaded c.args.own.now) (map loaded_back c.args.backs.now) c.args.line.now
    c.trimmed.result.now c.in-Ok.p c.in-Ok.ensures.read c.trimmed.ensures)
    (wrote_next c.in_ok-write_place-in-Ok.ensures.ok c.write_piece.ensures)
