use Rattle.frz_configurations.proofs.KeptSums.{size_some}
use Rattle.frz_configurations.proofs.Sums.{are_shares}
use Rattle.frz_configurations.proofs.shares.Shares.new.Goals as goal

pub split-origin-requires-clause-inside : goal.split-origin-requires-clause-inside
split-origin-requires-clause-inside c = size_some c.args.configurations.now.rules.now c.requires

pub invariant_of-result : goal.invariant_of-result
invariant_of-result c = record {
  known = are_shares c.args.configurations.now.rules.now c.split-origin.result c.in-Ok.numbers.items
      c.all_moved-white.result c.all_moved-black.result c.requires c.split-origin.ensures
      c.in-Ok.ensures c.all_moved-white.ensures c.all_moved-black.ensures;
}
