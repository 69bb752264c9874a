use Rattle.frz_retro.proofs.game_graph.GameGraph.new.Goals as goal

pub returns-clause-sound : goal.returns-clause-sound
returns-clause-sound g c =
    let game = c.args.game.now in
    let value = g.B.ExitBook.value_at game.book.now in
    record {
      same = game.fits;
      finite = c.numbered.ensures.finite game.rules.now value (g.met.B.ExitBook.small game.book.now)
          c.requires.size;
      different = c.different_arms.ensures game.rules.now value;
    }
