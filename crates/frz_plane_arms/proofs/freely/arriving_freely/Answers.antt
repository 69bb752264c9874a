use Rattle.frz_plane_arms.proofs.FreeSteps.{from_origins, none_free}
use Rattle.frz_plane_arms.proofs.freely.arriving_freely.Goals as goal

pub returns-then-origins-eq0-clause-plane : goal.returns-then-origins-eq0-clause-plane
returns-then-origins-eq0-clause-plane c =
    none_free c.args.lines.now c.args.turn c.args.before.now c.args.after.now c.args.captures
    c.args.s c.free_origins-origins.result c.free_origins-origins.ensures c.empty.result
    c.if-origins-eq0.true c.empty.ensures

pub returns-clause-plane : goal.returns-clause-plane
returns-clause-plane c =
    from_origins c.args.lines.now c.args.turn c.args.before.now c.args.after.now c.args.captures
    c.args.s c.free_origins-origins.result c.free_origins-origins.ensures
    c.arriving_pairs-pairs.result c.keep_king.new.pairs c.arriving_pairs-pairs.ensures.plane
    c.keep_king.ensures
