use Rattle.frz_backs.proofs.LinkPlies.{mates_through, mates_within}
use Rattle.frz_backs.proofs.Numbered.{atlas_numbered}
use Rattle.frz_backs.proofs.OwnLines.{own_numbered}
use Rattle.frz_backs.proofs.laws.plies_over_tables.Goals as goal

pub returns-clause-mates : goal.returns-clause-mates
returns-clause-mates c = mates_within

pub returns-clause-longest : goal.returns-clause-longest
returns-clause-longest c = mates_through

pub returns-clause-numbered : goal.returns-clause-numbered
returns-clause-numbered c = atlas_numbered

pub returns-clause-lines : goal.returns-clause-lines
returns-clause-lines c = own_numbered
