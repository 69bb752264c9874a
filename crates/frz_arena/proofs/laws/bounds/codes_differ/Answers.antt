use Rattle.frz_arena.proofs.Bounds.OneBound as lemma
use Rattle.frz_arena.proofs.laws.bounds.codes_differ.Goals as goal

pub returns : goal.returns
returns c = lemma.codes_differ
