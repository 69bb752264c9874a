use Rattle.std.proofs.Common.{Option, None, Result, Ok, subst}
use Rattle.std.specs.Prelude.{map}
use Rattle.frz_board.specs.declared.man.Colour.{Colour}
use Rattle.frz_board.specs.Men.{other_of}
use Rattle.frz_store.specs.declared.outside.Failed.{Failed}
use Rattle.frz_store.specs.Told.{sink_of}
use Rattle.frz_backs.specs.FileOn.{loaded_back}
use Rattle.frz_game.specs.Games.{graph_by}
use Rattle.frz_game.specs.declared.wrong.Wrong.{Wrong}
use Rattle.frz_game.proofs.Lemmas.{finite}
use Rattle.frz_reasons.specs.TellingDenials.{TellsDenials}
use Rattle.frz_commands_why.specs.Deciders.{decider_of}
use Rattle.frz_commands_why.specs.Telling.{TellsBehind, TellsSo, ToldOpponent}
use Rattle.frz_commands_why.proofs.OneTelling.{opponent_there}
use Rattle.frz_commands_why.proofs.Told.{as_failed, hold_broken, hold_failed, hold_told}
use Rattle.frz_commands_why.proofs.telling.tell_hold.Goals as goal

pub write_denials-requires-clause-sound : goal.write_denials-requires-clause-sound
write_denials-requires-clause-sound g c =
    let game = c.args.game.now in
    finite game.rules.now (g.B.ExitBook.value_at game.book.now)
    (g.met.B.ExitBook.small game.book.now) c.requires.few

pub returns-in_err-wrong-clause-told : goal.returns-in_err-wrong-clause-told
returns-in_err-wrong-clause-told g c =
    let game = c.args.game.now in
    let rules = game.rules.now in
    let value = g.B.ExitBook.value_at game.book.now in
    let side = c.args.side in
    let kept = g.E.Entries.codes c.args.entries.now in
    let deciding = c.args.deciding.now in
    let decider = decider_of deciding.leans deciding.numbers.now deciding.rules.now
    (map loaded_back deciding.backs.now) in
    let old = sink_of g.O.Sink c.args.out.now in
    let new = sink_of g.O.Sink c.write_denials.new.out in
    as_failed (λ (r : Result (Option Wrong) Failed).
    TellsBehind rules value side kept decider c.args.number r old new)
    c.from_residual.result c.from_residual.ensures.0
    (λ d. hold_failed rules value side kept decider c.args.number c.requires.holds
    (opponent_there rules value (other_of side) (kept (other_of side)) decider c.args.number
    c.one_failing_way.ensures.there) c.in_err-wrong.field-0.0 d old new c.in_err-wrong.ensures.told)

pub returns-in-Some-clause-told : goal.returns-in-Some-clause-told
returns-in-Some-clause-told g c =
    let game = c.args.game.now in
    let rules = game.rules.now in
    let value = g.B.ExitBook.value_at game.book.now in
    let side = c.args.side in
    let kept = g.E.Entries.codes c.args.entries.now in
    let deciding = c.args.deciding.now in
    let decider = decider_of deciding.leans deciding.numbers.now deciding.rules.now
    (map loaded_back deciding.backs.now) in
    let old = sink_of g.O.Sink c.args.out.now in
    let new = sink_of g.O.Sink c.write_denials.new.out in
    hold_broken rules value side kept decider c.args.number c.requires.holds c.in-Some.wrong old new
    (subst (λ (w : Option Wrong). TellsDenials (graph_by rules value) side (kept side)
    c.args.number (Ok w) old new) c.in-Some.is c.in_ok-wrong.ensures.told)

pub returns-in-None-clause-told : goal.returns-in-None-clause-told
returns-in-None-clause-told g c =
    let game = c.args.game.now in
    let rules = game.rules.now in
    let value = g.B.ExitBook.value_at game.book.now in
    let side = c.args.side in
    let kept = g.E.Entries.codes c.args.entries.now in
    let deciding = c.args.deciding.now in
    let decider = decider_of deciding.leans deciding.numbers.now deciding.rules.now
    (map loaded_back deciding.backs.now) in
    let old = sink_of g.O.Sink c.args.out.now in
    let mid = sink_of g.O.Sink c.write_denials.new.out in
    let new = sink_of g.O.Sink c.tell_opponent.new.out in
    hold_told rules value side kept decider c.args.number c.requires.holds c.tell_opponent.result
    old mid new
    (subst (λ (w : Option Wrong). TellsDenials (graph_by rules value) side (kept side)
    c.args.number (Ok w) old mid) c.in-None.is c.in_ok-wrong.ensures.told)
    (subst (λ (who : Colour). TellsSo (ToldOpponent rules value who (kept who) decider
    c.args.number None) c.tell_opponent.result mid new) c.other.ensures.other
    c.tell_opponent.ensures.told)
