use Rattle.std.proofs.Common.{ap, sym, ◌∙◌, map}
use Rattle.frz_combinations.proofs.Lemmas.{value_onto-value}
use Rattle.frz_sets.specs.Sets.{radix_of}
use Rattle.frz_index.specs.Places.{digit_of}
use Rattle.frz_index.specs.TurnStates.{turn_number}
use Rattle.frz_index.specs.Candidates.{candidate}
use Rattle.frz_index.proofs.WholeNumbers.{digits_are, Num_below, candidate-Num}
use Rattle.frz_index.proofs.laws.numbers.Goals as goal

pub returns : goal.returns
returns c = record {
  below = λ gs p m. Num_below gs p m;
  found_again = candidate-Num;
  once = λ gs p q m n e. sym (candidate-Num gs p m) ∙ ap (candidate gs) e ∙ candidate-Num gs q n;
  formula =
      λ gs p m. sym (value_onto-value (turn_number gs p.turn p.ep) (map radix_of gs)
      (map (digit_of p) gs) (digits_are p gs m.counts));
}
