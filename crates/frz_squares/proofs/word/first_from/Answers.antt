use Rattle.frz_squares.proofs.Next.{none_left, next_is}
use Rattle.frz_squares.proofs.word.first_from.Goals as goal

pub returns-then-rest-eq0 : goal.returns-then-rest-eq0
returns-then-rest-eq0 c = none_left c.args.word c.args.n c.if-rest-eq0.true

pub returns : goal.returns
returns c = next_is c.args.word c.args.n c.ranges.word.fits c.if-rest-eq0.false
