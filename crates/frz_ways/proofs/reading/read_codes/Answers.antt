use Rattle.std.proofs.Common.{arith}
use Rattle.std.proofs.lemmas.Grind.{common_steps}
use Rattle.frz_ways.proofs.CodesGathered.{codes_next}
use Rattle.frz_ways.proofs.reading.read_codes.Goals as goal

pub loop-arm-preserved : goal.loop-arm-preserved
loop-arm-preserved g c = record {
  many = grind (arith, common_steps);
  read = grind (arith, common_steps);
  for = codes_next c.args.side _ c.loop-arm.codes.items c.push.new.self.items c.loop-arm.arm-index
      c.arm-item.result _ c.in_ok-code.code c.arm-item.is (grind (arith, common_steps))
      c.loop-arm.invariant.for
      c.in_ok-code.ensures.read c.push.ensures.items;
  quiet = grind (arith, common_steps);
  asked = grind (arith, common_steps);
  calls = grind (arith, common_steps);
  faults = grind (arith, common_steps);
  wants = grind (arith, common_steps);
}

pub returns-in_err-code-clause-asked : goal.returns-in_err-code-clause-asked
returns-in_err-code-clause-asked g c = grind (arith, common_steps)

pub returns-in_err-code-clause-calls : goal.returns-in_err-code-clause-calls
returns-in_err-code-clause-calls g c = grind (arith, common_steps)
