use Rattle.frz_exits.specs.Books.{value_by}
use Rattle.frz_premises.proofs.TableWords.{all_prove}
use Rattle.frz_premises.proofs.TrueLines.{line_true}
use Rattle.frz_premises.proofs.laws.lines_are_true.Goals as goal

pub returns : goal.returns
returns c leans rules links exact own i line there h q x d =
    line_true leans rules (value_by rules) links (all_prove links exact own) i line there h q x d
