use Rattle.frz_worked.proofs.UnconditionalTexts.{rook_unconditional, fortress_unconditional, pawn_unconditional, pawn_back_unconditional, corner_unconditional, corner_back_unconditional, blocked_unconditional, wall_unconditional}
use Rattle.frz_worked.proofs.laws.unconditional_texts.Goals as goal

pub returns-clause-rook : goal.returns-clause-rook
returns-clause-rook c = rook_unconditional

pub returns-clause-fortress : goal.returns-clause-fortress
returns-clause-fortress c = fortress_unconditional

pub returns-clause-pawn : goal.returns-clause-pawn
returns-clause-pawn c = pawn_unconditional

pub returns-clause-pawn_back : goal.returns-clause-pawn_back
returns-clause-pawn_back c = pawn_back_unconditional

pub returns-clause-corner : goal.returns-clause-corner
returns-clause-corner c = corner_unconditional

pub returns-clause-corner_back : goal.returns-clause-corner_back
returns-clause-corner_back c = corner_back_unconditional

pub returns-clause-blocked : goal.returns-clause-blocked
returns-clause-blocked c = blocked_unconditional

pub returns-clause-wall : goal.returns-clause-wall
returns-clause-wall c = wall_unconditional
