use Rattle.frz_arena.proofs.Plies.NeverBoth as lemma
use Rattle.frz_arena.proofs.laws.plies.never_both.Goals as goal

pub returns : goal.returns
returns g c = lemma.never_both
