use Rattle.std.proofs.Common.{◌≡◌, ◌∙◌, ◌++◌, ap}
use Rattle.frz_board.specs.declared.man.Colour.{Colour}
use Rattle.frz_fen.specs.Reading.{fen_of}
use Rattle.frz_fen.specs.Writing.{fen_text, target_text, turn_text}
use Rattle.frz_fen.proofs.WholeTexts.{fen_written}
use Rattle.frz_fen.proofs.Roundtrip.{reads_back}
use Rattle.frz_fen.proofs.writing.write_fen.Goals as goal

written : (c : goal.After-push-8) → c.push-8.new.text.bytes ≡ fen_text c.args.p.now
written c =
    fen_written c.args.p.now _ _ _ _ _ _ _ _ _ _ _
    c.write_placement.ensures.text c.push.ensures.text
    (c.write_turn.ensures.text ∙ ap (λ (k : Colour). c.push.new.text.bytes ++ turn_text k)
    c.turn.ensures.turn)
    c.push-2.ensures.text c.push-3.ensures.text c.push-4.ensures.text
    (c.write_target.ensures.text ∙ ap (λ o. c.push-4.new.text.bytes ++ target_text o) c.ep.ensures)
    c.push-5.ensures.text c.push-6.ensures.text c.push-7.ensures.text c.push-8.ensures.text

pub returns-clause-text : goal.returns-clause-text
returns-clause-text c = written c

pub returns-clause-back : goal.returns-clause-back
returns-clause-back c = ap fen_of (written c) ∙ reads_back c.args.p.now c.requires
