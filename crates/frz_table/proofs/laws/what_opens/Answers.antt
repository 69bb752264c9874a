use Rattle.frz_table.proofs.Belonging.{belongs, opens_by}
use Rattle.frz_table.proofs.laws.what_opens.Goals as goal

pub returns : goal.returns
returns c = record { belongs = belongs; opens = opens_by }
