use Rattle.std.proofs.Common.{rules}
use Rattle.frz_ways.proofs.Choices.{choice_put, filled_all}
use Rattle.frz_ways.proofs.choosing.put_choices.Goals as goal

pub loop-place-preserved : goal.loop-place-preserved
loop-place-preserved c = record {
  room = search rules;
  filled = choice_put c.args.own c.args.arms.now c.args.codes.now c.loop-place.into
      c.loop-place.place c.index-arms-place.result c.seen.result
      c.loop-place-test.true c.requires.many c.loop-place.invariant.room c.index-arms-place.is
      c.seen.ensures c.loop-place.invariant.filled;
}

pub returns : goal.returns
returns c =
    filled_all c.args.own c.args.arms.now c.args.codes.now c.loop-place.into c.loop-place.place
    c.loop-place-test.false c.requires.many c.loop-place.invariant.room
    c.loop-place.invariant.filled
