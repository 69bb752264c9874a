use Rattle.std.proofs.Common.{sym, ◌∙◌, ap}
use Rattle.frz_retro.specs.Shape.{counts_for}
use Rattle.frz_retro.proofs.Laws.{contains_in}
use Rattle.frz_retro.proofs.meeting.is_counted.Goals as goal

pub free-requires-clause-arm : goal.free-requires-clause-arm
free-requires-clause-arm g c =
    let a = c.requires.arm in (
      a.0,
      contains_in ((g.G.NumberedGame.arena c.args.graph.now).arms c.args.pred.now.number) a.0
          a.1,
      a.2,
    )

pub returns-then-own : goal.returns-then-own
returns-then-own g c a i m =
    c.free.ensures a
    (contains_in ((g.G.NumberedGame.arena c.args.graph.now).arms c.args.pred.now.number) a i) m
    ∙ sym (ap (λ w. counts_for w a) c.if-own.true)
