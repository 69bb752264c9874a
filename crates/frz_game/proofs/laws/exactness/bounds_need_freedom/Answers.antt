use Rattle.std.proofs.Common.{refl, arith}
use Rattle.frz_board.specs.declared.man.Colour.TheVariants.{White, Black}
use Rattle.frz_arena.specs.declared.bound.Bound.TheVariants.{Wins, Fails}
use Rattle.frz_game.specs.RenouncedRook.{renounced_rook}
use Rattle.frz_game.proofs.FreedomNeeded.{rules_value, drawn, exits, decided, none_bad, lost_outside, opponent_free, h1_member, h2_member, never_black}
use Rattle.frz_game.proofs.RenouncedRook.{from_h1, from_h2, h1_mate, h1_slower, h2_fails}
use Rattle.frz_game.proofs.laws.exactness.bounds_need_freedom.Goals as goal

pub returns-clause-drawn : goal.returns-clause-drawn
returns-clause-drawn c all =
    let loss = all renounced_rook rules_value White from_h2 (Fails 0) h2_member h2_fails
    opponent_free drawn in never_black 0 loss.forced

pub returns-clause-decided : goal.returns-clause-decided
returns-clause-decided c all =
    let loss = all renounced_rook rules_value White from_h2 (Fails 0) h2_member h2_fails
    opponent_free exits decided in never_black loss.0 loss.1

pub returns-clause-win : goal.returns-clause-win
returns-clause-win c all =
    let slow = all renounced_rook rules_value White from_h1 (Wins 3) h1_member h1_slower
    opponent_free exits (none_bad Black) 3 refl in slow.least 1 (omega arith) h1_mate.forced

pub returns-clause-lost : goal.returns-clause-lost
returns-clause-lost c all =
    let loss = all renounced_rook rules_value White from_h2 (Fails 0) h2_member h2_fails
    opponent_free exits lost_outside 0 refl in never_black loss.0 loss.1

pub returns-clause-lost_in : goal.returns-clause-lost_in
returns-clause-lost_in c all =
    let loss = all renounced_rook rules_value White from_h2 (Fails 0) h2_member h2_fails
    opponent_free exits (none_bad White) 0 refl in never_black 0 loss.forced
