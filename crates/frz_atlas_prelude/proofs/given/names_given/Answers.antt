use Rattle.std.proofs.Common.{sym, ◌∙◌}
use Rattle.frz_atlas_prelude.specs.Given.{not_so_many, same}
use Rattle.frz_atlas_prelude.proofs.given.names_given.Goals as goal

pub returns-in-None-clause-refused : goal.returns-in-None-clause-refused
returns-in-None-clause-refused c = not_so_many (sym c.in-None.ensures.named)

pub returns-in-Some-clause-refused : goal.returns-in-Some-clause-refused
returns-in-Some-clause-refused c =
    same _ (sym c.in-Some.ensures.named) (sym c.is_same_file.ensures ∙ c.if-is_same_file.true)
