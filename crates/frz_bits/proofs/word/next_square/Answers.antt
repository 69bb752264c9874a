use Rattle.std.proofs.Common.{ℕ, subst, sym}
use Rattle.frz_bits.specs.Words.{IsNext}
use Rattle.frz_squares.proofs.Lemmas.{none_left, next_is}
use Rattle.frz_bits.proofs.word.next_square.Goals as goal

pub returns-then-rest-eq0 : goal.returns-then-rest-eq0
returns-then-rest-eq0 c = none_left c.args.word c.args.n c.if-rest-eq0.true

pub at-requires : goal.at-requires
at-requires c = (next_is c.args.word c.args.n c.ranges.word.fits c.if-rest-eq0.false).on_board

pub returns : goal.returns
returns c =
    let P : ℕ → Type 0 = λ s. IsNext c.args.word c.args.n s in
    subst P (sym c.at.ensures)
    (next_is c.args.word c.args.n c.ranges.word.fits c.if-rest-eq0.false)
