use Rattle.frz_squares.proofs.Lemmas.{has-or}
use Rattle.frz_bits.proofs.word.either.Goals as goal

pub returns : goal.returns
returns c k l = has-or c.args.word c.args.other k
