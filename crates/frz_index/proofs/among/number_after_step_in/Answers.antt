use Rattle.frz_index.proofs.AmongSeveral.{counted_where_shared, shared_on_both}
use Rattle.frz_index.proofs.among.number_after_step_in.Goals as goal

pub returns-in-Some-clause-told : goal.returns-in-Some-clause-told
returns-in-Some-clause-told c =
    let gs = c.args.plan.now.groups.items in
    let told = c.number_after_in.ensures.told in (
      λ some. counted_where_shared gs c.args.man c.args.from c.args.to (told.0 some),
      λ t. told.1 (shared_on_both gs c.args.man c.args.from c.args.to _ _ c.in-Some.ensures t),
    )
