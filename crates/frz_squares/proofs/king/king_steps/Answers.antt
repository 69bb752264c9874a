use Rattle.frz_squares.proofs.Steps.{steps_are, besides}
use Rattle.frz_squares.proofs.king.king_steps.Goals as goal

pub returns : goal.returns
unfolding besides
returns c = steps_are c.args.word c.ranges.word.fits
