use Rattle.frz_index.proofs.FormerNumbers.{OldNum_below, OldNum_once}
use Rattle.frz_index.proofs.laws.old_numbers.Goals as goal

pub returns : goal.returns
returns c = record { below = OldNum_below; once = OldNum_once }
