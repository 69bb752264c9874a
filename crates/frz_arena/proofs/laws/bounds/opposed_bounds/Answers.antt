use Rattle.frz_arena.proofs.Bounds.OneBound as lemma
use Rattle.frz_arena.proofs.laws.bounds.opposed_bounds.Goals as goal

pub returns : goal.returns
returns g c = lemma.opposed_bounds
