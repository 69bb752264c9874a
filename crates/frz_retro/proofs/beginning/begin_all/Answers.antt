use Rattle.std.proofs.Common.{arith}
use Rattle.frz_board.specs.Men.{other_of}
use Rattle.frz_retro.proofs.BegunNotes.{greatest_none, noted_next}
use Rattle.frz_retro.proofs.Begins.{begun_anew}
use Rattle.frz_retro.proofs.beginning.begin_all.Goals as goal

pub loop-i-init : goal.loop-i-init
loop-i-init g c =
    record {
      begun =
          begun_anew (g.G.NumberedGame.arena c.args.graph.now)
          (g.G.NumberedGame.count c.args.graph.now) c.args.side _ c.reset.new.self c.requires.size
          c.reset.ensures.size c.reset.ensures.codes c.reset.ensures.tail;
      noted = record { room = c.requires.room; each = λ j h. absurd (omega (arith, h)) };
      greatest = greatest_none c.reset.new.self.later;
      cost = omega arith;
      later = omega arith;
    }

pub loop-i-preserved : goal.loop-i-preserved
loop-i-preserved g c =
    let inv = c.loop-i.invariant in
    let cost = c.notes_of.ensures.cost in
    let before = inv.cost in
    let later = c.notes_of.ensures.later in
    let since = inv.later in
    let end = c.size-i-end.ensures in
    let test = c.loop-i-test.true in
    record {
      begun = c.begin-last.ensures.begun;
      noted =
          rw c.write.ensures
          (noted_next (g.G.NumberedGame.arena c.args.graph.now)
          (g.G.NumberedGame.count c.args.graph.now) (other_of c.args.side) c.loop-i.i c.loop-i.notes
          c.notes_of.result.1.count c.notes_of.result.1.code (omega (arith, end, test)) inv.noted
          c.notes_of.ensures.other);
      greatest = c.begin-last.ensures.greatest;
      cost = omega (arith, cost, before);
      later = omega (arith, later, since);
    }
