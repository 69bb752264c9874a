use Rattle.frz_game.proofs.LongestMate.{longest_mate}
use Rattle.frz_game.proofs.laws.exactness.longest_mate.Goals as goal

pub returns : goal.returns
returns c = longest_mate
