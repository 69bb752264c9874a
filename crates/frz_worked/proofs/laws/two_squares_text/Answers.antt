use Rattle.frz_worked.proofs.RookText.{two_squares_read}
use Rattle.frz_worked.proofs.laws.two_squares_text.Goals as goal

pub returns : goal.returns
returns c = two_squares_read
