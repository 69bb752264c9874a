use Rattle.std.proofs.Common.{◌∙◌, [], ap, subst, sym, List}
use Rattle.frz_sets.specs.Views.{GroupLine, RuleLines}
use Rattle.frz_index.specs.Kept.{AreNumberable}
use Rattle.frz_index.proofs.Lemmas.{numberable}
use Rattle.frz_configurations.proofs.Ready.{kings_all}
use Rattle.frz_configurations.proofs.configurations.Configurations.new.Goals as goal

pub radices_of-requires : goal.radices_of-requires
radices_of-requires c =
    subst (λ (gs : List GroupLine). AreNumberable gs)
    (sym (c.deref.ensures.value ∙ ap (λ (r : RuleLines). r.groups) c.rules.view_is))
    (numberable c.args.rules.now c.requires)

pub invariant_of-result-clause-kings : goal.invariant_of-result-clause-kings
invariant_of-result-clause-kings c =
    kings_all [] c.args.rules.now.groups c.requires.lines.groups
