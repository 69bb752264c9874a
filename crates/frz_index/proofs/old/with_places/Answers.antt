use Rattle.std.proofs.Common.{arith, subst, sym, ◌+◌, ◌≡◌, ◌∙◌, length}
use Rattle.frz_index.specs.OldDigits.{ArePlaced}
use Rattle.frz_index.proofs.DigitByDigit.{one_too_many, placed_off, placed_on, placed_start, tested}
use Rattle.frz_index.proofs.old.with_places.Goals as goal
use Rattle.frz_index.proofs.old.with_places.Goals.{then-has+else-count-most, else-has}

pub loop-k-init : goal.loop-k-init
loop-k-init c =
    placed_start c.args.p.now c.args.colour c.args.states.now c.args.least c.args.most c.args.start
    (omega (arith, c.ranges.start))

pub returns-then-count-most : goal.returns-then-count-most
returns-then-count-most c =
    one_too_many c.args.p.now c.args.colour c.args.states.now c.args.least c.args.most c.args.start
    c.loop-k.k c.loop-k.count c.loop-k.number c.loop-k-test.true
    (tested _ _ _ _ _ _ _ _ c.loop-k-test.true c.index-states-k.is c.index-states-k-in-loop-k.is
    c.has.ensures c.if-has.true)
    c.if-count-most.true c.loop-k.invariant

pub overflow_add-count : goal.overflow_add-count
overflow_add-count c = omega (arith, c.loop-k.invariant.few, c.if-count-most.false, c.ranges.most)

pub loop-k-preserved : goal.loop-k-preserved
loop-k-preserved c =
    elim c.if-has.branch [
      | then-has+else-count-most w ↦
          subst (λ n. ArePlaced c.args.p.now c.args.colour c.args.states.now c.args.least
          c.args.most c.args.start (c.loop-k.k + 1) n c.if-has.number) (sym w.count-is)
          (placed_on c.args.p.now c.args.colour c.args.states.now c.args.least c.args.most
          c.args.start c.loop-k.k c.loop-k.count c.loop-k.number c.if-has.number w.radix.result
          (tested _ _ _ _ _ _ _ _ c.loop-k-test.true c.index-states-k.is
          c.index-states-k-in-loop-k.is c.has.ensures w.if-has.true)
          w.if-count-most.false c.loop-k.invariant w.radix.ensures
          (w.number-is ∙ w.with_digit-number.ensures))
      | else-has w ↦
          subst (λ n. ArePlaced c.args.p.now c.args.colour c.args.states.now c.args.least
          c.args.most c.args.start (c.loop-k.k + 1) n c.if-has.number) (sym w.count-is)
          (subst (λ m. ArePlaced c.args.p.now c.args.colour c.args.states.now c.args.least
          c.args.most c.args.start (c.loop-k.k + 1) c.loop-k.count m) (sym w.number-is)
          (placed_off c.args.p.now c.args.colour c.args.states.now c.args.least c.args.most
          c.args.start c.loop-k.k c.loop-k.count c.loop-k.number
          (tested _ _ _ _ _ _ _ _ c.loop-k-test.true c.index-states-k.is
          c.index-states-k-in-loop-k.is c.has.ensures w.if-has.false)
          c.loop-k.invariant))
    ]

pub returns : goal.returns
returns c =
    let end : c.loop-k.k ≡ length c.args.states.now = omega
    (arith, c.loop-k-test.false, c.loop-k.auto.k-end) in
    subst (λ k. ArePlaced c.args.p.now c.args.colour c.args.states.now c.args.least c.args.most
    c.args.start k c.loop-k.count c.loop-k.number) end c.loop-k.invariant
