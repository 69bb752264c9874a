use Rattle.std.proofs.Common.{◌∙◌, map}
use Rattle.frz_check.specs.EntryCodes.{of_side}
use Rattle.frz_backs.specs.FileOn.{loaded_back}
use Rattle.frz_atlas.proofs.VerdictsByValues.{moved_leaning, moved_plain}
use Rattle.frz_atlas.proofs.opening.verdict_over.Goals as goal

pub returns-in-Atlas-clause-verdict : goal.returns-in-Atlas-clause-verdict
returns-in-Atlas-clause-verdict g c =
    moved_leaning c.args.back.now.table.kind c.new.result.rules.now c.args.back.now.table.rules
    c.new.result.backs.now c.args.before.now
    (λ side. of_side side c.args.back.now.white.items c.args.back.now.black.items)
    c.verdict_by.result c.in-Atlas.ensures (c.new.ensures.rules ∙ c.rules.ensures.rules)
    c.new.ensures.backs c.verdict_by.ensures.verdict

pub returns-in_default-clause-verdict : goal.returns-in_default-clause-verdict
returns-in_default-clause-verdict g c =
    moved_plain c.args.back.now.table.kind c.new-in_default.result.rules.now
    c.args.back.now.table.rules (map loaded_back c.args.before.now)
    (λ side. of_side side c.args.back.now.white.items c.args.back.now.black.items)
    c.verdict_by-in_default.result (λ e. c.in_default.not-Atlas (c.kind.ensures ∙ e))
    (c.new-in_default.ensures ∙ c.rules-in_default.ensures.rules)
    c.verdict_by-in_default.ensures.verdict
