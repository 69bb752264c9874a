use Rattle.frz_chain.proofs.Transfer.{tells_chess}
use Rattle.frz_chain.proofs.laws.chained_tables_tell.Goals as goal

pub returns : goal.returns
returns c = tells_chess
