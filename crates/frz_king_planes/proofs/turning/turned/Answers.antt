use Rattle.std.proofs.Common.{◌≡◌, ◌∙◌, ◌+◌, ap, arith}
use Rattle.frz_planes.specs.Planes.{has_pair}
use Rattle.frz_king_planes.specs.Turning.{with_bit_of}
use Rattle.frz_king_planes.proofs.Exchanges.{bit_small, low_all, low_more, with_low_of}
use Rattle.frz_king_planes.proofs.turning.turned.Goals as goal

pub loop-i-preserved : goal.loop-i-preserved
loop-i-preserved c a b la lb =
    let i = c.loop-i.i in
    let plane = c.args.plane.now in
    c.exchanged-pairs.ensures a b la lb
    ∙ c.loop-i.invariant (with_bit_of i a b) (with_bit_of i b a)
    (bit_small i c.loop-i-test.true a b la lb) (bit_small i c.loop-i-test.true b a lb la)
    ∙ ap (λ x. has_pair plane x (with_low_of i (with_bit_of i b a) (with_bit_of i a b)))
    (low_more i c.loop-i-test.true a b la lb)
    ∙ ap (has_pair plane (with_low_of (i + 1) a b)) (low_more i c.loop-i-test.true b a lb la)

pub returns : goal.returns
returns c a b la lb =
    let all : c.loop-i.i ≡ 6 = omega arith in
    c.loop-i.invariant a b la lb
    ∙ ap (λ x. has_pair c.args.plane.now x (with_low_of c.loop-i.i b a))
    (low_all c.loop-i.i a b all la lb)
    ∙ ap (has_pair c.args.plane.now b) (low_all c.loop-i.i b a all lb la)
