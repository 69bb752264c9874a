use Rattle.std.proofs.Common.{◌∙◌}
use Rattle.library_example.proofs.KeptCodes.{tables_solved}
use Rattle.library_example.proofs.solved.Solved.by_rules.Goals as goal

pub invariant_of-result : goal.invariant_of-result
invariant_of-result g c =
    let game = c.game_by-game in
    record {
      sound = c.requires;
      fits = c.in_ok-set.ensures;
      tables = tables_solved c.args.rules game.result.rules.now game.result.book.now.rules.now
          game.ensures.rules (game.ensures.book ∙ c.new-book.ensures) c.run_game.new.self
          c.run_game-2.new.self c.run_game.ensures.table c.run_game-2.ensures.table;
    }
