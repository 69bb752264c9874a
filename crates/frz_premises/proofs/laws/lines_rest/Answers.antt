use Rattle.frz_premises.proofs.RestingLines.{line_rests}
use Rattle.frz_premises.proofs.laws.lines_rest.Goals as goal

pub returns : goal.returns
returns c = line_rests
