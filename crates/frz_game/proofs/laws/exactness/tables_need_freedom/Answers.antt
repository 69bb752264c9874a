use Rattle.frz_board.specs.declared.man.Colour.TheVariants.{White}
use Rattle.frz_arena.specs.declared.bound.Bound.TheVariants.{Fails}
use Rattle.frz_game.specs.RenouncedRook.{renounced_rook}
use Rattle.frz_game.proofs.FreedomNeeded.{rules_value, drawn, exits, decided, opponent_free, h2_member, never_black, table, h2_code, h2_failure}
use Rattle.frz_game.proofs.RenouncedRook.{from_h2}
use Rattle.frz_game.proofs.laws.exactness.tables_need_freedom.Goals as goal

pub returns-clause-drawn : goal.returns-clause-drawn
returns-clause-drawn c all =
    let exact = all renounced_rook rules_value White table.0 table.1 opponent_free drawn in
    never_black 0 ((exact.failure from_h2 0 h2_member).0 h2_code).forced

pub returns-clause-decided : goal.returns-clause-decided
returns-clause-decided c all =
    let exact = all renounced_rook rules_value White table.0 table.1 opponent_free exits decided in
    let loss = (exact.failure from_h2 h2_member).0 h2_failure in never_black loss.0 loss.1

pub returns-clause-bound : goal.returns-clause-bound
returns-clause-bound c all =
    let bound = all renounced_rook rules_value White table.0 table.1 opponent_free from_h2 (Fails 0)
    h2_member h2_code in never_black 0 (bound.drawn drawn).forced
