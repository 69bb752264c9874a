use Rattle.frz_worked.proofs.TenNumbers.{game_is_finite, arms_are_different}
use Rattle.frz_worked.proofs.ten.Ten.new.Goals as goal

pub returns : goal.returns
returns c = record { finite = game_is_finite; different = arms_are_different }
