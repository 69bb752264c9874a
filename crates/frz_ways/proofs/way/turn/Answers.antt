use Rattle.frz_arena.proofs.Lemmas.{one_chosen}
use Rattle.std.proofs.Common.{◌≡◌, refl, subst}
use Rattle.frz_ways.specs.Turns.{due_at, late_by, IsPlayed}
use Rattle.frz_ways.proofs.LineTurning.{has_arm, opening_lined, played_lined, store_unsettled}
use Rattle.frz_ways.proofs.PlyDues.{has_move}
use Rattle.frz_store.specs.Told.{source_of, sink_of}
use Rattle.frz_ways.proofs.TurnAnswers.{played_kind, played_settled, settled_cause, settled_placed, still_ended, still_no_more, store_kind}
use Rattle.frz_ways.proofs.Turning.{cut_is_line, turn_next}
use Rattle.frz_ways.proofs.TurnWritten.{stopped_by, opening_wrote, turn_wrote}
use Rattle.frz_ways.proofs.way.turn.Goals as goal

pub returns-in_err-due-clause-wrote : goal.returns-in_err-due-clause-wrote
returns-in_err-due-clause-wrote g c =
    stopped_by (g.T.KeptCodes.known c.args.table.now (g.T.KeptCodes.told c.args.store.now).files
    c.args.player.side) (g.T.KeptCodes.size c.args.table.now)
    (g.G.NumberedGame.arena c.args.game.now) c.args.player.opponent c.args.player.side c.args.cursor
    c.args.reader.now c.in_err-due.field-0.0 c.from_residual.result
    (source_of g.I.Source c.args.input.now) (sink_of g.O.Sink c.args.out.now)
    c.from_residual.ensures.1

pub returns-in_err-write_opening-clause-wrote : goal.returns-in_err-write_opening-clause-wrote
returns-in_err-write_opening-clause-wrote g c =
    opening_wrote one_chosen c.filled.ensures
    (g.met.G.NumberedGame.finite c.args.game.now c.requires.sound) c.args.player.opponent
    c.args.player.side c.args.cursor c.inspect.new.lists.codes.items c.in_ok-due.ensures.arms
    (g.T.KeptCodes.known c.args.table.now (g.T.KeptCodes.told c.args.store.now).files
    c.args.player.side) (g.T.KeptCodes.size c.args.table.now)
    c.in_ok-due.ensures.codes c.in_ok-due.due c.in_ok-due.ensures.due c.args.reader.now
    c.from_residual-in_err-write_opening.result
    (source_of g.I.Source c.args.input.now) (sink_of g.O.Sink c.args.out.now)
    (sink_of g.O.Sink c.write_opening.new.out) c.from_residual-in_err-write_opening.ensures.1
    c.in_err-write_opening.ensures.failed

pub play-requires-clause-there : goal.play-requires-clause-there
play-requires-clause-there g c =
    has_move (g.met.G.NumberedGame.finite c.args.game.now c.requires.sound) c.args.player.side
    c.args.cursor c.inspect.new.lists.codes.items c.in_ok-due.ensures.arms c.in_ok-due.ensures.read
    c.requires.stands (late_by c.args.player.opponent c.args.cursor.played) c.in_ok-due.due
    c.in_ok-due.ensures.due

pub returns-clause-next : goal.returns-clause-next
returns-clause-next g c =
    turn_next (g.met.G.NumberedGame.finite c.args.game.now c.requires.sound) c.args.player.opponent
    c.args.player.side c.args.cursor c.inspect.new.lists.codes.items c.in_ok-due.ensures.arms
    c.in_ok-due.ensures.read c.requires.stands c.requires.turns c.in_ok-due.due
    c.in_ok-due.ensures.due c.args.reader.now
    c.play.new.reader c.play.result (source_of g.I.Source c.args.input.now)
    (source_of g.I.Source c.play.new.input) (sink_of g.O.Sink c.write_opening.new.out) (sink_of g.O.Sink c.play.new.out)
    c.play.ensures.played

pub returns-clause-wrote : goal.returns-clause-wrote
returns-clause-wrote g c =
    turn_wrote one_chosen c.filled.ensures
    (g.met.G.NumberedGame.finite c.args.game.now c.requires.sound) c.args.player.opponent
    c.args.player.side c.args.cursor c.inspect.new.lists.codes.items c.in_ok-due.ensures.arms
    (g.T.KeptCodes.known c.args.table.now (g.T.KeptCodes.told c.args.store.now).files
    c.args.player.side) (g.T.KeptCodes.size c.args.table.now)
    c.in_ok-due.ensures.codes c.in_ok-due.due c.in_ok-due.ensures.due c.args.reader.now
    c.play.new.reader
    c.play.result (source_of g.I.Source c.args.input.now) (source_of g.I.Source c.play.new.input)
    (sink_of g.O.Sink c.args.out.now) (sink_of g.O.Sink c.write_opening.new.out)
    (sink_of g.O.Sink c.play.new.out) c.in_ok-write_opening.ensures.ok c.play.ensures.played

pub returns-clause-still_ended : goal.returns-clause-still_ended
returns-clause-still_ended g c =
    still_ended c.args.player.opponent c.args.player.side c.args.cursor
    c.inspect.new.lists.nexts.items c.inspect.new.lists.codes.items c.args.reader.now
    c.play.new.reader c.play.result (source_of g.I.Source c.args.input.now)
    (source_of g.I.Source c.play.new.input) c.in_ok-due.due
    (sink_of g.O.Sink c.write_opening.new.out) (sink_of g.O.Sink c.play.new.out)
    c.play.ensures.played c.requires.ended

pub returns-clause-no_more : goal.returns-clause-no_more
returns-clause-no_more g c =
    still_no_more c.args.player.opponent c.args.player.side c.args.cursor
    c.inspect.new.lists.nexts.items c.inspect.new.lists.codes.items c.args.reader.now
    c.play.new.reader c.play.result (source_of g.I.Source c.args.input.now)
    (source_of g.I.Source c.play.new.input) c.in_ok-due.due
    (sink_of g.O.Sink c.write_opening.new.out) (sink_of g.O.Sink c.play.new.out)
    c.play.ensures.played

pub returns-clause-placed : goal.returns-clause-placed
returns-clause-placed g c =
    settled_placed c.play.result
    (played_settled c.args.player.opponent c.args.player.side c.args.cursor
    c.inspect.new.lists.nexts.items c.inspect.new.lists.codes.items c.args.reader.now
    c.play.new.reader c.play.result (source_of g.I.Source c.args.input.now)
    (source_of g.I.Source c.play.new.input) c.in_ok-due.due
    (sink_of g.O.Sink c.write_opening.new.out) (sink_of g.O.Sink c.play.new.out)
    c.play.ensures.played)

pub returns-clause-cause : goal.returns-clause-cause
returns-clause-cause g c =
    settled_cause c.play.result (g.T.KeptCodes.told c.args.store.now)
    (g.T.KeptCodes.told c.inspect.new.store)
    (played_settled c.args.player.opponent c.args.player.side c.args.cursor
    c.inspect.new.lists.nexts.items c.inspect.new.lists.codes.items c.args.reader.now
    c.play.new.reader c.play.result (source_of g.I.Source c.args.input.now)
    (source_of g.I.Source c.play.new.input) c.in_ok-due.due
    (sink_of g.O.Sink c.write_opening.new.out) (sink_of g.O.Sink c.play.new.out)
    c.play.ensures.played)
    (record {
      faults = c.in_ok-due.ensures.causes.fine;
      wants = c.in_ok-due.ensures.causes.wants_fine;
    })

pub returns-in_err-due-clause-kind : goal.returns-in_err-due-clause-kind
returns-in_err-due-clause-kind g c =
    store_kind c.args.player.opponent c.from_residual.result _ c.from_residual.ensures.1

pub returns-in_err-write_opening-clause-kind : goal.returns-in_err-write_opening-clause-kind
returns-in_err-write_opening-clause-kind g c =
    store_kind c.args.player.opponent c.from_residual-in_err-write_opening.result _
    c.from_residual-in_err-write_opening.ensures.1

pub returns-clause-kind : goal.returns-clause-kind
returns-clause-kind g c =
    played_kind c.args.player.opponent c.args.player.side c.args.cursor
    c.inspect.new.lists.nexts.items c.inspect.new.lists.codes.items c.args.reader.now
    c.play.new.reader c.play.result (source_of g.I.Source c.args.input.now)
    (source_of g.I.Source c.play.new.input) c.in_ok-due.due
    (cut_is_line (g.met.G.NumberedGame.finite c.args.game.now c.requires.sound)
    c.args.player.opponent c.args.player.side c.args.cursor c.inspect.new.lists.codes.items
    c.in_ok-due.ensures.arms c.in_ok-due.ensures.read c.requires.stands c.in_ok-due.due
    c.in_ok-due.ensures.due)
    (sink_of g.O.Sink c.write_opening.new.out) (sink_of g.O.Sink c.play.new.out)
    c.play.ensures.played

pub returns-in_err-due-clause-line : goal.returns-in_err-due-clause-line
returns-in_err-due-clause-line g c = λ by settled.
    absurd (store_unsettled c.in_err-due.field-0.0 c.from_residual.result c.from_residual.ensures.1
    settled)

pub returns-in_err-write_opening-clause-line : goal.returns-in_err-write_opening-clause-line
returns-in_err-write_opening-clause-line g c = λ by settled. (
  refl,
  opening_lined one_chosen c.filled.ensures
      (g.met.G.NumberedGame.finite c.args.game.now c.requires.sound)
      c.args.player.side c.args.cursor c.inspect.new.lists.codes.items c.in_ok-due.ensures.arms
      (g.T.KeptCodes.known c.args.table.now (g.T.KeptCodes.told c.args.store.now).files
      c.args.player.side) (g.T.KeptCodes.size c.args.table.now)
      c.in_ok-due.ensures.codes c.in_ok-due.due
      (subst (λ o. c.in_ok-due.due ≡ due_at (g.G.NumberedGame.arena c.args.game.now) o
      c.args.player.side c.args.cursor c.inspect.new.lists.nexts.items
      c.inspect.new.lists.codes.items) by c.in_ok-due.ensures.due)
      (has_arm c.args.player.side c.args.cursor c.inspect.new.lists.nexts.items
      c.inspect.new.lists.codes.items c.in_ok-due.due c.in_ok-due.ensures.read
      (has_move (g.met.G.NumberedGame.finite c.args.game.now c.requires.sound) c.args.player.side
      c.args.cursor c.inspect.new.lists.codes.items c.in_ok-due.ensures.arms c.in_ok-due.ensures.read
      c.requires.stands (late_by c.args.player.opponent c.args.cursor.played) c.in_ok-due.due
      c.in_ok-due.ensures.due)) c.args.reader.now
      c.from_residual-in_err-write_opening.result
      (sink_of g.O.Sink c.args.out.now)
      (sink_of g.O.Sink c.write_opening.new.out) c.from_residual-in_err-write_opening.ensures.1
      c.in_err-write_opening.ensures.failed,
)

pub returns-clause-line : goal.returns-clause-line
returns-clause-line g c = λ by settled.
    played_lined one_chosen c.filled.ensures
    (g.met.G.NumberedGame.finite c.args.game.now c.requires.sound)
    c.args.player.side c.args.cursor c.inspect.new.lists.codes.items c.in_ok-due.ensures.arms
    (g.T.KeptCodes.known c.args.table.now (g.T.KeptCodes.told c.args.store.now).files
    c.args.player.side) (g.T.KeptCodes.size c.args.table.now)
    c.in_ok-due.ensures.codes c.in_ok-due.due
    (subst (λ o. c.in_ok-due.due ≡ due_at (g.G.NumberedGame.arena c.args.game.now) o
    c.args.player.side c.args.cursor c.inspect.new.lists.nexts.items
    c.inspect.new.lists.codes.items) by c.in_ok-due.ensures.due) c.args.reader.now
    c.play.new.reader
    c.play.result (source_of g.I.Source c.args.input.now) (source_of g.I.Source c.play.new.input)
    (sink_of g.O.Sink c.args.out.now) (sink_of g.O.Sink c.write_opening.new.out)
    (sink_of g.O.Sink c.play.new.out) c.in_ok-write_opening.ensures.ok
    (subst (λ o. IsPlayed o c.args.player.side c.args.cursor c.in_ok-due.due
    c.inspect.new.lists.nexts.items c.inspect.new.lists.codes.items c.args.reader.now
    c.play.new.reader c.play.result (source_of g.I.Source c.args.input.now)
    (source_of g.I.Source c.play.new.input) (sink_of g.O.Sink c.write_opening.new.out)
    (sink_of g.O.Sink c.play.new.out)) by c.play.ensures.played)
