use Rattle.std.proofs.Common.{inl, inr, refl, subst, ◌∙◌, arith}
use Rattle.frz_store.specs.Told.{source_of, sink_of}
use Rattle.frz_answer.specs.World.{spent_by}
use Rattle.frz_table.proofs.Lemmas.{fine_after, quiet_after}
use Rattle.frz_ways.specs.declared.playing.Turn.{Turn}
use Rattle.frz_ways.specs.declared.playing.Turn.TheVariants.{On}
use Rattle.frz_ways.specs.Turns.{TurnsTo}
use Rattle.frz_ways.proofs.Counting.{few_at_start, few_left_next, less_left_next, quiet_here}
use Rattle.frz_ways.proofs.WaySoFar.{at_start, next_far, out_far, over_far, fault_far}
use Rattle.frz_ways.proofs.Spending.{spends_at_one}
use Rattle.frz_ways.proofs.way.play_way.Goals as goal

pub plies-init : goal.plies-init
plies-init g c = record {
  inside = c.requires.inside;
  stands = inl refl;
  ended = c.requires.ended;
  few = few_at_start c.args.player.opponent (g.G.NumberedGame.arena c.args.game.now)
      c.args.player.side c.args.start c.args.code c.args.reader.now c.ranges.code.fits
      c.requires.few;
  no_more = omega arith;
  far = at_start (g.T.KeptCodes.known c.args.table.now (g.T.KeptCodes.told c.args.store.now).files
      c.args.player.side) (g.T.KeptCodes.size c.args.table.now)
      (g.G.NumberedGame.arena c.args.game.now) c.args.player.opponent c.args.player.side
      c.args.start c.args.code c.args.reader.now
      (source_of g.I.Source c.args.input.now) (sink_of g.O.Sink c.args.out.now)
      (spent_by (g.T.KeptCodes.told c.args.store.now) c.args.steps.now);
  unread = λ by. refl;
  quiet = quiet_here (g.T.KeptCodes.told c.args.store.now);
  fine = record { faults = refl; wants = refl };
  heard = refl;
  later = omega arith;
}

pub returns-in_err-end-clause-wrote : goal.returns-in_err-end-clause-wrote
returns-in_err-end-clause-wrote g c =
    let e = c.in_err-end.ensures in
    fault_far (λ f. g.T.KeptCodes.known c.args.table.now f c.args.player.side) c.turn.new.reader _ _
    c.plies.invariant.quiet.unwritten.files c.plies.invariant.far
    (spends_at_one (g.G.NumberedGame.arena c.args.game.now) c.plies.cursor.number e.asked e.calls
    e.step)
    c.in_err-end.field-0.0 c.from_residual.result c.from_residual.ensures.1 e.wrote

pub returns-in-Over-clause-wrote : goal.returns-in-Over-clause-wrote
returns-in-Over-clause-wrote g c =
    let e = c.in_ok-end.ensures in
    over_far (λ f. g.T.KeptCodes.known c.args.table.now f c.args.player.side) c.turn.new.reader _ _
    c.plies.invariant.quiet.unwritten.files c.plies.invariant.far
    (spends_at_one (g.G.NumberedGame.arena c.args.game.now) c.plies.cursor.number e.asked e.calls
    e.step)
    c.in-Over.is e.wrote

pub returns-in-Out-clause-wrote : goal.returns-in-Out-clause-wrote
returns-in-Out-clause-wrote g c =
    let e = c.in_ok-end.ensures in
    out_far (λ f. g.T.KeptCodes.known c.args.table.now f c.args.player.side) c.turn.new.reader _ _
    c.plies.invariant.quiet.unwritten.files c.plies.invariant.far
    (spends_at_one (g.G.NumberedGame.arena c.args.game.now) c.plies.cursor.number e.asked e.calls
    e.step)
    c.in-Out.is e.wrote

pub plies-preserved : goal.plies-preserved
plies-preserved g c =
    let arena = g.G.NumberedGame.arena c.args.game.now in
    let size = g.G.NumberedGame.count c.args.game.now in
    let opponent = c.args.player.opponent in
    let side = c.args.player.side in
    let told = g.T.KeptCodes.told in
    let e = c.in_ok-end.ensures in
    let to : TurnsTo arena size opponent side c.plies.cursor c.plies.reader c.turn.new.reader
    (On c.in-On.number c.in-On.code) =
    subst (λ (t : Turn). TurnsTo arena size opponent side c.plies.cursor c.plies.reader
    c.turn.new.reader t) c.in-On.is e.next in
    record {
      inside = to.0;
      stands = inr to.1;
      ended = e.still_ended;
      few = few_left_next arena side c.plies.cursor c.plies.reader c.turn.new.reader c.in-On.number
          c.in-On.code opponent to.2 c.plies.invariant.few;
      no_more = (let a = c.plies.invariant.no_more in let b = e.no_more in omega (arith, a, b));
      far = next_far (λ f. g.T.KeptCodes.known c.args.table.now f side) c.turn.new.reader _ _
          c.plies.invariant.quiet.unwritten.files c.plies.invariant.far
          (spends_at_one arena c.plies.cursor.number e.asked e.calls e.step) c.in-On.is e.wrote;
      unread = λ by. e.unread by ∙ c.plies.invariant.unread by;
      quiet = quiet_after (told c.args.store.now) (told c.plies.store) (told c.turn.new.store)
          c.plies.invariant.quiet e.quiet;
      fine = fine_after (told c.args.store.now) (told c.plies.store) (told c.turn.new.store)
          c.plies.invariant.fine e.cause;
      heard = e.input ∙ c.plies.invariant.heard;
      later = (let a = c.plies.invariant.later in let b = e.later in omega (arith, a, b));
    }

pub plies-smaller : goal.plies-smaller
plies-smaller g c =
    let arena = g.G.NumberedGame.arena c.args.game.now in
    let size = g.G.NumberedGame.count c.args.game.now in
    let opponent = c.args.player.opponent in
    let side = c.args.player.side in
    let to : TurnsTo arena size opponent side c.plies.cursor c.plies.reader c.turn.new.reader
    (On c.in-On.number c.in-On.code) =
    subst (λ (t : Turn). TurnsTo arena size opponent side c.plies.cursor c.plies.reader
    c.turn.new.reader t) c.in-On.is c.in_ok-end.ensures.next in
    less_left_next arena side c.plies.cursor c.plies.reader c.turn.new.reader c.in-On.number
    c.in-On.code
    opponent to.2
