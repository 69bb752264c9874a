use Rattle.std.proofs.Common.{arith, length, refl, slice_index}
use Rattle.std.proofs.lemmas.Option.{slice_get-get_or, slice_get_read}
use Rattle.frz_index.proofs.Covering.{covered_all, covered_none, covered_on}
use Rattle.frz_index.proofs.GroupSteps.{at_read, digit_room, left_end, left_start, left_step, step_fits, whole_fits}
use Rattle.frz_index.proofs.digits.number_of_digits.Goals as goal

pub digit-requires-clause-size : goal.digit-requires-clause-size
digit-requires-clause-size c =
    digit_room c.args.p.now c.args.groups.now c.loop-i.i c.loop-i.total c.index-groups-i.result
    (slice_index c.args.weights.now c.loop-i.i) c.requires.numberable
    (at_read c.args.groups.now c.args.weights.now c.loop-i.i c.index-groups-i.result
    c.requires.numberable c.requires.weights c.loop-i-test.true c.index-groups-i.is)
    c.loop-i.invariant.left

pub overflow_add-total : goal.overflow_add-total
overflow_add-total c =
    let a = at_read c.args.groups.now c.args.weights.now c.loop-i.i c.index-groups-i.result
    c.requires.numberable c.requires.weights c.loop-i-test.true c.index-groups-i.is in
    let f = step_fits c.args.p.now c.args.groups.now c.loop-i.i c.loop-i.total
    c.index-groups-i.result (slice_index c.args.weights.now c.loop-i.i) c.in_ok-digit.digit
    c.requires.numberable a c.loop-i.invariant.left c.in_ok-digit.ensures.0
    c.in_ok-digit.ensures.1 in
    omega (arith, f, whole_fits c.args.groups.now c.requires.numberable)

pub overflow_mul-total : goal.overflow_mul-total
overflow_mul-total c = omega (arith, overflow_add-total c)

pub loop-i-init : goal.loop-i-init
loop-i-init c = record {
  left = left_start c.args.p.now c.args.groups.now;
  squares = covered_none c.args.p.now c.args.groups.now;
}

pub loop-i-preserved : goal.loop-i-preserved
loop-i-preserved c =
    let a = at_read c.args.groups.now c.args.weights.now c.loop-i.i c.index-groups-i.result
    c.requires.numberable c.requires.weights c.loop-i-test.true c.index-groups-i.is in
    record {
      left = left_step c.args.p.now c.args.groups.now c.loop-i.i c.loop-i.total
          c.index-groups-i.result (slice_index c.args.weights.now c.loop-i.i) c.in_ok-digit.digit
          c.requires.numberable a c.loop-i.invariant.left c.in_ok-digit.ensures.0
          c.in_ok-digit.ensures.1;
      squares = covered_on c.args.p.now c.args.groups.now c.loop-i.i c.index-groups-i.result
          c.loop-i.covered c.in_ok-digit.squares c.loop-i-test.true c.index-groups-i.is
          c.loop-i.invariant.squares c.in_ok-digit.ensures.2;
    }

pub returns : goal.returns
returns c =
    let ended = left_end c.args.p.now c.args.groups.now c.loop-i.i c.loop-i.total
    c.loop-i-test.false c.loop-i.invariant.left in (
      ended.0,
      ended.1,
      covered_all c.args.p.now c.args.groups.now c.loop-i.i c.loop-i.covered
          c.loop-i-test.false c.loop-i.invariant.squares,
    )

pub digit-requires-clause-chart : goal.digit-requires-clause-chart
digit-requires-clause-chart c =
    c.requires.charts.each c.loop-i.i c.index-groups-i.result _
    (slice_get_read c.args.groups.now (length c.args.groups.now) c.loop-i.i c.index-groups-i.result
    refl c.loop-i-test.true c.index-groups-i.is)
    (slice_get-get_or c.args.charts.now c.loop-i.i _
    (omega (arith, c.requires.charts.size, c.loop-i-test.true)))
