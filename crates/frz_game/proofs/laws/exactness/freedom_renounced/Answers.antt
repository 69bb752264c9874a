use Rattle.frz_game.proofs.FreedomNeeded.{drawn, opponent_free, h1_member, h2_member}
use Rattle.frz_game.proofs.RenouncedRook.{from_h1, from_h2, h1_mate, h2_mate, h1_slower, h2_fails}
use Rattle.frz_game.proofs.laws.exactness.freedom_renounced.Goals as goal

pub returns-clause-drawn : goal.returns-clause-drawn
returns-clause-drawn c = drawn

pub returns-clause-opponent : goal.returns-clause-opponent
returns-clause-opponent c = opponent_free

pub returns-clause-none : goal.returns-clause-none
returns-clause-none c = (from_h2, h2_member, h2_mate, h2_fails)

pub returns-clause-slower : goal.returns-clause-slower
returns-clause-slower c = (from_h1, h1_member, h1_mate, h1_slower)
