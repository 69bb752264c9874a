use Rattle.std.proofs.Common.{[]}
use Rattle.frz_atlas.proofs.LoadedAll.{judged_open}
use Rattle.frz_atlas.proofs.laws.judged_tables_open.Goals as goal

pub returns : goal.returns
returns c = λ tables h. judged_open [] tables h
