use Rattle.frz_report.proofs.Zugzwangs.{white_zugzwang, black_zugzwang}
use Rattle.frz_report.proofs.laws.squeezes_are_zugzwangs.Goals as goal

pub returns-clause-white : goal.returns-clause-white
returns-clause-white c = white_zugzwang

pub returns-clause-black : goal.returns-clause-black
returns-clause-black c = black_zugzwang
