use Rattle.frz_squares.proofs.Lemmas.{has-and}
use Rattle.frz_bits.proofs.word.both.Goals as goal

pub returns : goal.returns
returns c k l = has-and c.args.word c.args.other k
