use Rattle.std.proofs.Common.{ap, ◌∙◌}
use Rattle.std.specs.Prelude.{not}
use Rattle.frz_sets.specs.Views.{RuleLines}
use Rattle.frz_exits.specs.Forbidding.{is_forbidden}
use Rattle.frz_exits.proofs.forbidding.allowed.Goals as goal

pub returns : goal.returns
returns c =
    let lines = c.deref.ensures.value ∙ ap (λ (r : RuleLines). r.forbids) c.r.view_is in
    ap not (c.forbids.ensures ∙ ap (λ ls. is_forbidden ls c.args.side c.args.p.now c.args.m) lines)
