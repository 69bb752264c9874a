use Rattle.frz_atlas.proofs.ExactTables.{judged_exact, links_backs}
use Rattle.frz_atlas.proofs.laws.judged_tables_are_exact.Goals as goal

pub returns : goal.returns
returns c = record { exact = judged_exact; backs = links_backs }
