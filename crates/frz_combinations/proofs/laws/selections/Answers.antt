use Rattle.frz_combinations.proofs.Selecting.{digit_below, selection_at-digit}
use Rattle.frz_combinations.proofs.laws.selections.Goals as goal

pub returns : goal.returns
returns c = record { below = digit_below; found_again = selection_at-digit }
