use Rattle.frz_arena.proofs.Ways.OneWay as lemma
use Rattle.frz_arena.proofs.laws.ways.one_way.Goals as goal

pub returns : goal.returns
returns g c = lemma.one_way
