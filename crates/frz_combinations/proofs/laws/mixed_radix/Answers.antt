use Rattle.frz_combinations.proofs.Digits.{digits-value, value-digits, value_below, value_onto-value}
use Rattle.frz_combinations.proofs.laws.mixed_radix.Goals as goal

pub returns : goal.returns
returns c =
    record {
      below = value_below;
      found_again = digits-value;
      each = value-digits;
      onto = value_onto-value;
    }
