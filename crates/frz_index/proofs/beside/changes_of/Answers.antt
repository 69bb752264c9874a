use Rattle.std.proofs.Common.{◌≡◌, ◌≤◌, ◌+◌, ◌*◌, ◌∙◌, Some, ap, arith, length, refl, slice_index, subst, sym}
use Rattle.std.specs.List.{slice_get}
use Rattle.std.proofs.lemmas.Option.{slice_get-get_or, slice_get_read}
use Rattle.frz_index.proofs.DigitsBeside.{after_none, after_on, changed_on, changes_are, digit_adds, radix_fits}
use Rattle.frz_index.proofs.GroupSteps.{At, at_read}
use Rattle.frz_index.proofs.NumbersAfterSteps.{Shifted, shifted_start}
use Rattle.frz_index.proofs.RoomForMen.{counted_at}
use Rattle.frz_index.specs.Places.{IsWithinCount}
use Rattle.frz_index.proofs.beside.changes_of.Goals as goal
use Rattle.frz_index.proofs.beside.changes_of.Goals.{After-from, After-from-in-loop-i}

pub change_of-requires-clause-chart : goal.change_of-requires-clause-chart
change_of-requires-clause-chart c =
    c.requires.charts.each c.loop-i.i c.index-groups-i.result _
    (slice_get_read c.args.groups.now (length c.args.groups.now) c.loop-i.i c.index-groups-i.result
    refl c.loop-i-test.true c.index-groups-i.is)
    (slice_get-get_or c.args.charts.now c.loop-i.i _
    (omega (arith, c.requires.charts.size, c.loop-i-test.true)))

pub change_of-requires-clause-numberable : goal.change_of-requires-clause-numberable
change_of-requires-clause-numberable c =
    (at_read c.args.groups.now c.args.weights.now c.loop-i.i c.index-groups-i.result
    c.requires.numberable c.requires.weights c.loop-i-test.true c.index-groups-i.is).sound

pub change_of-requires-clause-size : goal.change_of-requires-clause-size
change_of-requires-clause-size c =
    radix_fits c.args.groups.now c.loop-i.i c.index-groups-i.result
    (slice_index c.args.weights.now c.loop-i.i) c.requires.numberable
    (at_read c.args.groups.now c.args.weights.now c.loop-i.i c.index-groups-i.result
    c.requires.numberable c.requires.weights c.loop-i-test.true c.index-groups-i.is)

pub change_of-requires-clause-before : goal.change_of-requires-clause-before
change_of-requires-clause-before c =
    counted_at (IsWithinCount c.args.p.now) c.args.groups.now c.loop-i.i c.index-groups-i.result
    c.requires.before
    (slice_get_read c.args.groups.now (length c.args.groups.now) c.loop-i.i c.index-groups-i.result
    refl c.loop-i-test.true c.index-groups-i.is)

-- the group that was read
read : (c : After-from) → slice_get c.args.groups.now c.loop-i.i ≡ Some c.index-groups-i.result
read c =
    slice_get_read c.args.groups.now (length c.args.groups.now) c.loop-i.i c.index-groups-i.result
    refl c.loop-i-test.true c.index-groups-i.is

at : (c : After-from) → At c.args.groups.now c.loop-i.i c.index-groups-i.result
    (slice_index c.args.weights.now c.loop-i.i)
at c =
    at_read c.args.groups.now c.args.weights.now c.loop-i.i c.index-groups-i.result
    c.requires.numberable c.requires.weights c.loop-i-test.true c.index-groups-i.is

adds_before : (c : After-from) → c.from.result * c.from-weight.result ≤ 134217728
adds_before c =
    let x = c.in_ok-change.change in
    let one = c.in_ok-change.ensures in
    let w = slice_index c.args.weights.now c.loop-i.i in
    let same : c.from.result * c.from-weight.result ≡ x.before * w =
    ap (λ d. d * c.from-weight.result) c.from.ensures ∙ ap (λ n. x.before * n) c.from-weight.ensures
    in
    omega (
      arith,
      same,
      digit_adds c.args.p.now c.args.groups.now c.loop-i.i x.before c.index-groups-i.result w
          c.requires.numberable (at c)
          (counted_at (IsWithinCount c.args.p.now) c.args.groups.now c.loop-i.i
          c.index-groups-i.result c.requires.before (read c)) one.some_before,
    )

adds_after : (c : After-from-in-loop-i) → c.from-in-loop-i.result * c.from-weight.result ≤ 134217728
adds_after c =
    let x = c.in_ok-change.change in
    let one = c.in_ok-change.ensures in
    let w = slice_index c.args.weights.now c.loop-i.i in
    let same : c.from-in-loop-i.result * c.from-weight.result ≡ x.after * w =
    ap (λ d. d * c.from-weight.result) c.from-in-loop-i.ensures
    ∙ ap (λ n. x.after * n) c.from-weight.ensures in
    omega (
      arith,
      same,
      digit_adds c.args.q.now c.args.groups.now c.loop-i.i x.after c.index-groups-i.result w
          c.requires.numberable
          (at_read c.args.groups.now c.args.weights.now c.loop-i.i c.index-groups-i.result
          c.requires.numberable c.requires.weights c.loop-i-test.true c.index-groups-i.is)
          one.counted one.some_after,
    )

pub overflow_mul-before : goal.overflow_mul-before
overflow_mul-before c =
    omega (arith, adds_before (goal.at.overflow_mul-before c).After-from)

pub overflow_add-before : goal.overflow_add-before
overflow_add-before c =
    omega (
      arith,
      adds_before (goal.at.overflow_add-before c).After-from,
      c.loop-i.invariant.small_before,
      c.loop-i-test.true,
      c.requires.numberable.few,
    )

pub overflow_mul-after : goal.overflow_mul-after
overflow_mul-after c =
    omega (arith, adds_after (goal.at.overflow_mul-after c).After-from-in-loop-i)

pub overflow_add-after : goal.overflow_add-after
overflow_add-after c =
    omega (
      arith,
      adds_after (goal.at.overflow_add-after c).After-from-in-loop-i,
      c.loop-i.invariant.small_after,
      c.loop-i-test.true,
      c.requires.numberable.few,
    )

pub loop-i-init : goal.loop-i-init
loop-i-init c = record {
  shifted = shifted_start c.args.groups.now c.args.p.now c.args.q.now 0 0 0;
  small_before = omega arith;
  small_after = omega arith;
  squares = after_none c.args.p.now c.args.q.now c.args.groups.now;
}

pub loop-i-preserved : goal.loop-i-preserved
loop-i-preserved c =
    let d = (goal.at.loop-i-preserved c).After-from in
    let e = (goal.at.loop-i-preserved c).After-from-in-loop-i in
    let p = c.args.p.now in
    let q = c.args.q.now in
    let gs = c.args.groups.now in
    let i = c.loop-i.i in
    let g = c.index-groups-i.result in
    let x = c.in_ok-change.change in
    let w = c.from-weight.result in
    let h = c.loop-i.invariant in
    record {
      shifted =
          subst (λ n. Shifted gs p q 0 0 0 (i + 1) (c.loop-i.after + n * w)
          (c.loop-i.before + c.from.result * w)) (sym c.from-in-loop-i.ensures)
          (subst (λ n. Shifted gs p q 0 0 0 (i + 1) (c.loop-i.after + x.after * w)
          (c.loop-i.before + n * w)) (sym c.from.ensures)
          (changed_on p q gs i c.loop-i.before c.loop-i.after g x (read d) h.shifted
          c.in_ok-change.ensures w
          (c.from-weight.ensures ∙ c.requires.weights.known i c.loop-i-test.true)));
      small_before = omega (arith, adds_before d, h.small_before);
      small_after = omega (arith, adds_after e, h.small_after);
      squares = after_on p q gs i g x c.loop-i.squares c.loop-i-test.true c.index-groups-i.is
          h.squares c.in_ok-change.ensures;
    }

pub returns : goal.returns
returns c =
    changes_are c.args.p.now c.args.q.now c.args.groups.now c.loop-i.i _ c.loop-i-test.false
    (omega arith) c.loop-i.invariant.shifted c.loop-i.invariant.small_after
    c.loop-i.invariant.squares
