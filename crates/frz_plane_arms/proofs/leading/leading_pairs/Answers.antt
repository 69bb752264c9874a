use Rattle.std.proofs.Common.{◌&&◌, ◌∙◌, ap, rules, sym}
use Rattle.frz_board.specs.Moving.{IsStep}
use Rattle.frz_planes.specs.Planes.{has_pair}
use Rattle.frz_pair_moves.specs.Ways.{leave_way}
use Rattle.frz_plane_arms.proofs.LeadingPairs.{leading, led_nowhere}
use Rattle.frz_plane_arms.proofs.leading.leading_pairs.Goals as goal

pub returns-then-is_nowhere-clause-plane : goal.returns-then-is_nowhere-clause-plane
returns-then-is_nowhere-clause-plane c a b la lb =
    c.empty.ensures a b la lb
    ∙ sym (led_nowhere c.args.m c.args.live.now c.args.live_after.now c.args.to.now c.args.into a b
    (c.is_nowhere.ensures c.if-is_nowhere.true a b la lb))

pub returns-then-is_nowhere-clause-leading : goal.returns-then-is_nowhere-clause-leading
returns-then-is_nowhere-clause-leading c r p n k sound board are can then next a b la lb =
    let step : IsStep c.args.m = search rules in
    leading r p c.args.m n k c.args.live.now c.args.live_after.now sound board are can then next
    step c.args.to.now c.args.into a b la lb c.empty.result
    (λ x y lx ly. returns-then-is_nowhere-clause-plane c x y lx ly)

pub returns-clause-plane : goal.returns-clause-plane
returns-clause-plane c a b la lb =
    c.legal_pairs.ensures.plane a b la lb
    ∙ ap (λ t. (has_pair c.args.live.now a b && leave_way c.args.m a b) && t)
    (c.counted.ensures a b la lb)

pub returns-clause-leading : goal.returns-clause-leading
returns-clause-leading c r p n k sound board are can then next a b la lb =
    leading r p c.args.m n k c.args.live.now c.args.live_after.now sound board are can then next
    c.legal_pairs.ensures.step c.args.to.now c.args.into a b la lb c.legal_pairs.result
    (λ x y lx ly. returns-clause-plane c x y lx ly)
