use Rattle.frz_squares.proofs.Lemmas.{has-without}
use Rattle.frz_bits.proofs.word.without.Goals as goal

pub returns : goal.returns
returns c k l = has-without c.args.word c.args.other k c.ranges.other.fits l
