use Rattle.std.proofs.Common.{sym}
use Rattle.frz_answer.specs.World.{spent_by}
use Rattle.frz_ways.specs.Kept.{uncalled}
use Rattle.frz_ways.proofs.InMemory.{plays_loaded, settled_here}
use Rattle.frz_ways.proofs.loaded.play_loaded.Goals as goal

pub returns-clause-played : goal.returns-clause-played
returns-clause-played g c =
    let side = c.args.player.side in
    let codes = g.E.Entries.codes c.args.entries.now side in
    let w = c.play_way.ensures.wrote in (
      w.0,
      w.1,
      w.2,
      w.3,
      w.4,
      w.5,
      plays_loaded (g.G.NumberedGame.arena c.args.game.now) c.args.player.opponent side codes
          c.args.start c.entry-code.result c.args.reader.now c.play_way.new.reader w.1 w.0
          c.play_way.result (spent_by uncalled c.args.steps.now)
          (spent_by uncalled c.play_way.new.steps) c.entry-code.ensures
          (w.6.2 (λ k. codes) (λ k. sym (w.6.1 k))),
    )

pub returns-clause-settled : goal.returns-clause-settled
returns-clause-settled g c =
    settled_here c.play_way.result c.play_way.ensures.cause c.play_way.ensures.placed
