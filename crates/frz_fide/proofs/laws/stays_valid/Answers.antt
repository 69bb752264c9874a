use Rattle.frz_fide.proofs.StaysValid.{valid_after}
use Rattle.frz_fide.proofs.laws.stays_valid.Goals as goal

pub returns : goal.returns
returns c p m v s h = valid_after p m v s.to h
