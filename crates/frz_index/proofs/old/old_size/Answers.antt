use Rattle.std.proofs.Common.{ap, sym, subst, ◌∙◌}
use Rattle.frz_sets.proofs.Lemmas.{counted}
use Rattle.frz_sets.specs.Sound.{AreCounted}
use Rattle.frz_sets.specs.Views.{RuleLines}
use Rattle.frz_index.proofs.old.old_size.Goals as goal

pub size-requires : goal.size-requires
size-requires c =
    subst AreCounted (sym (c.deref.ensures.value ∙ ap (λ (r : RuleLines). r.groups) c.r.view_is))
    (counted c.args.r.now c.requires.lines)
