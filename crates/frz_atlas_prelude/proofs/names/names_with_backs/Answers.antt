use Rattle.std.proofs.Common.{sym, ◌∙◌}
use Rattle.frz_atlas_prelude.specs.Names.{not_so_many, same}
use Rattle.frz_atlas_prelude.proofs.names.names_with_backs.Goals as goal

pub returns-in-None-clause-refused : goal.returns-in-None-clause-refused
returns-in-None-clause-refused c = not_so_many (sym c.in-None.ensures.named)

pub returns-in-Some-2-clause-refused : goal.returns-in-Some-2-clause-refused
returns-in-Some-2-clause-refused c =
    same _ (sym c.in-Some.ensures.named) (sym c.has_twice.ensures ∙ c.if-not-has_twice.false)
