use Rattle.std.proofs.Common.{ℕ, List, ◌+◌, Err, length, length-set, refl, subst, sym, ◌∙◌, arith}
use Rattle.std.proofs.lemmas.List.{take_more_set}
use Rattle.frz_board.specs.declared.man.Colour.TheVariants.{White}
use Rattle.frz_store.specs.Told.{sink_of}
use Rattle.frz_arena.proofs.Lemmas.{one_chosen}
use Rattle.frz_ways.specs.declared.opponent.Opponent.{Opponent}
use Rattle.frz_ways.specs.declared.opponent.Opponent.TheVariants as opponents
use Rattle.frz_ways.specs.declared.playing.Turn.{Turn}
use Rattle.frz_ways.specs.declared.playing.Turn.TheVariants.{On}
use Rattle.frz_ways.specs.PlayLoaded.{IsSettled}
use Rattle.frz_ways.specs.Turns.{TurnsTo}
use Rattle.frz_ways.proofs.HeldLines.{HeldFar, far_at_start}
use Rattle.frz_ways.proofs.HeldTurns.{fault_shown, hold_next, next_shown, out_shown, over_shown, repeats, repeats_failed}
use Rattle.frz_ways.proofs.InMemory.{settled_here}
use Rattle.frz_ways.proofs.shown.play_held.Goals as goal

pub plies-init : goal.plies-init
plies-init g c = record {
  inside = c.requires.inside;
  few = omega arith;
  room = refl;
  far = far_at_start (g.G.NumberedGame.arena c.args.game.now) c.args.player.side
      (g.E.Entries.codes c.args.entries.now c.args.player.side) c.args.start c.requires.held
      c.args.reader.now (sink_of g.O.Sink c.args.out.now) c.args.steps.now;
  ended = c.requires.ended;
  same = refl;
  unread = refl;
  later = omega arith;
}

pub returns-then-contains-clause-played : goal.returns-then-contains-clause-played
returns-then-contains-clause-played g c =
    repeats one_chosen (g.met.G.NumberedGame.finite c.args.game.now c.requires.sound)
    c.requires.held c.plies.invariant.far (sym c.contains.ensures.value ∙ c.if-contains.true)
    (sink_of g.O.Sink c.write_piece.new.out) c.in_ok-write_piece.ensures.ok

pub returns-in_err-write_piece-clause-played : goal.returns-in_err-write_piece-clause-played
returns-in_err-write_piece-clause-played g c =
    repeats_failed one_chosen (g.met.G.NumberedGame.finite c.args.game.now c.requires.sound)
    c.requires.held c.plies.invariant.far (sym c.contains.ensures.value ∙ c.if-contains.true)
    (sink_of g.O.Sink c.write_piece.new.out) c.in_err-write_piece.ensures.failed
    c.from_residual.result c.from_residual.ensures.1

pub returns-in_err-end-clause-played : goal.returns-in_err-end-clause-played
returns-in_err-end-clause-played g c =
    let e = c.in_err-end.ensures in
    let settled : IsSettled {T = Turn} (Err c.in_err-end.field-0.0) =
    settled_here (Err c.in_err-end.field-0.0) e.cause e.placed in
    fault_shown one_chosen (g.met.G.NumberedGame.finite c.args.game.now c.requires.sound)
    c.requires.held c.plies.invariant.far (sym c.contains.ensures.value ∙ c.if-contains.false)
    (sink_of g.O.Sink c.turn.new.out) c.turn.new.steps e.step c.plies.reader c.plies.invariant.same
    (length (g.E.Entries.codes c.args.entries.now White)) c.from_residual-in_err-end.result
    c.from_residual-in_err-end.ensures.1 e.wrote.0 e.wrote.3 (e.line c.requires.line settled).1

pub returns-in-Over-clause-played : goal.returns-in-Over-clause-played
returns-in-Over-clause-played g c =
    let e = c.in_ok-end.ensures in
    over_shown one_chosen (g.met.G.NumberedGame.finite c.args.game.now c.requires.sound)
    c.requires.held c.plies.invariant.far (sym c.contains.ensures.value ∙ c.if-contains.false)
    (sink_of g.O.Sink c.turn.new.out) c.turn.new.steps e.step c.plies.reader c.plies.invariant.same
    (length (g.E.Entries.codes c.args.entries.now White)) c.in-Over.is (e.line c.requires.line tt).1

pub returns-in-Out-clause-played : goal.returns-in-Out-clause-played
returns-in-Out-clause-played g c =
    let e = c.in_ok-end.ensures in
    out_shown one_chosen (g.met.G.NumberedGame.finite c.args.game.now c.requires.sound)
    c.requires.held c.plies.invariant.far (sym c.contains.ensures.value ∙ c.if-contains.false)
    (sink_of g.O.Sink c.turn.new.out) c.turn.new.steps e.step c.plies.reader c.plies.invariant.same
    (length (g.E.Entries.codes c.args.entries.now White)) c.in-Out.is (e.line c.requires.line tt).1

pub plies-preserved : goal.plies-preserved
plies-preserved g c =
    let e = c.in_ok-end.ensures in
    let arena = g.G.NumberedGame.arena c.args.game.now in
    let line = e.line c.requires.line tt in
    let to : TurnsTo arena (g.G.NumberedGame.count c.args.game.now) opponents.Codes
    c.args.player.side c.plies.cursor c.plies.reader c.turn.new.reader
    (On c.in-On.number c.in-On.code) =
    subst (λ (o : Opponent). TurnsTo arena (g.G.NumberedGame.count c.args.game.now) o
    c.args.player.side c.plies.cursor c.plies.reader c.turn.new.reader
    (On c.in-On.number c.in-On.code)) c.requires.line
    (subst (λ (t : Turn). TurnsTo arena (g.G.NumberedGame.count c.args.game.now)
    c.args.player.opponent c.args.player.side c.plies.cursor c.plies.reader c.turn.new.reader t)
    c.in-On.is e.next) in
    let hold = hold_next arena c.args.player.side c.plies.cursor c.plies.reader c.turn.new.reader
    c.in-On.number c.in-On.code c.plies.invariant.far.small to.2 in
    let early = hold.1 in
    let room = c.plies.invariant.room in
    let few = c.plies.invariant.few in
    record {
      inside = to.0;
      few = omega (arith, early);
      room = length-set c.plies.seen c.plies.cursor.played c.plies.cursor.number ∙ room;
      far = subst (λ (ns : List ℕ). HeldFar arena c.args.player.side
          (g.E.Entries.codes c.args.entries.now c.args.player.side) c.args.start
          (record { number = c.in-On.number; code = c.in-On.code; played = c.plies.cursor.played + 1 })
          c.args.reader.now ns (sink_of g.O.Sink c.args.out.now) (sink_of g.O.Sink c.turn.new.out)
          c.args.steps.now c.turn.new.steps)
          (sym (take_more_set c.plies.seen c.plies.cursor.played c.plies.cursor.number
          (omega (arith, few, room))))
          (next_shown one_chosen (g.met.G.NumberedGame.finite c.args.game.now c.requires.sound)
          c.requires.held c.plies.invariant.far (sym c.contains.ensures.value ∙ c.if-contains.false)
          (sink_of g.O.Sink c.turn.new.out) c.turn.new.steps e.step c.plies.reader c.plies.invariant.same
          (length (g.E.Entries.codes c.args.entries.now White)) c.in-On.is hold.0 line.1);
      ended = e.still_ended;
      same = line.0 ∙ c.plies.invariant.same;
      unread = e.unread c.requires.line ∙ c.plies.invariant.unread;
      later = (let a = c.plies.invariant.later in let b = e.later in omega (arith, a, b));
    }
