use Rattle.frz_combinations.specs.Binomials.{IsRow}
use Rattle.frz_combinations.proofs.pascal.binomial.Given as goal

abbrev pub invariant-loop : goal.invariant-loop
invariant-loop l = IsRow l.counter l.row
