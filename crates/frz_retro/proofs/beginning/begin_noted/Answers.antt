use Rattle.frz_retro.proofs.BegunNotes.{greatest_none}
use Rattle.frz_retro.proofs.Begins.{begun_anew}
use Rattle.frz_retro.proofs.beginning.begin_noted.Goals as goal

pub loop-i-init : goal.loop-i-init
loop-i-init g c =
    record {
      begun =
          begun_anew (g.G.NumberedGame.arena c.args.graph.now)
          (g.G.NumberedGame.count c.args.graph.now) c.args.side _ c.reset.new.self c.requires.size
          c.reset.ensures.size c.reset.ensures.codes c.reset.ensures.tail;
      greatest = greatest_none c.reset.new.self.later;
    }

pub loop-i-preserved : goal.loop-i-preserved
loop-i-preserved g c =
    record { begun = c.begin-last.ensures.begun; greatest = c.begin-last.ensures.greatest }
