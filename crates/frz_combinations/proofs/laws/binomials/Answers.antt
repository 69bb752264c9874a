use Rattle.frz_combinations.proofs.Pascals.{choose-past, choose-pascal, choose-zero}
use Rattle.frz_combinations.proofs.laws.binomials.Goals as goal

pub returns : goal.returns
returns c = record { none = choose-past; one = choose-zero; pascal = choose-pascal }
