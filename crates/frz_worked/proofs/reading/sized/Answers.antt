use Rattle.frz_worked.proofs.reading.sized.Goals as goal

pub set_size-requires : goal.set_size-requires
set_size-requires g c = (c.in-Ok.ensures).lines
