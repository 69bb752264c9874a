use Rattle.frz_arena.proofs.Bounds.OneBound as lemma
use Rattle.frz_arena.proofs.laws.bounds.one_bound.Goals as goal

pub returns-clause-bound : goal.returns-clause-bound
returns-clause-bound g c = lemma.one_bound

pub returns-clause-code : goal.returns-clause-code
returns-clause-code g c = lemma.one_code
