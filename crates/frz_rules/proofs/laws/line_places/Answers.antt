use Rattle.frz_rules.specs.Grammar.{line_form}
use Rattle.frz_rules.proofs.Reaches.{greatest_front, line_possible}
use Rattle.frz_rules.proofs.laws.line_places.Goals as goal

pub returns : goal.returns
returns c = greatest_front line_form line_possible
