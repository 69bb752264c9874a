use Rattle.frz_arena.proofs.Tables.OneTable as lemma
use Rattle.frz_arena.proofs.laws.tables.exact_codes.Goals as goal

pub returns : goal.returns
returns g c = lemma.exact_codes
