use Rattle.std.proofs.Common.{arith, subst}
use Rattle.frz_board.specs.Moving.{Step}
use Rattle.frz_plane_exits.specs.Adding.{Adds, LeavesBy}
use Rattle.frz_plane_exits.specs.declared.mover.Mover.TheVariants.{Man}
use Rattle.frz_plane_exits.proofs.AllMen.{all_men, one_man}
use Rattle.frz_plane_exits.proofs.LeavingPlanes.{valid_then, worth_there}
use Rattle.frz_plane_exits.proofs.exits.add_men.Goals as goal

pub add_pairs-requires : goal.add_pairs-requires
add_pairs-requires g c =
    valid_then c.args.configurations.now.rules.now c.args.p.now (Man c.step_at-m.result)
    c.man_leaves-pairs.result c.man_leaves-pairs.ensures

pub loop-k-preserved : goal.loop-k-preserved
loop-k-preserved g c =
    let r = c.args.configurations.now.rules.now in
    let value = g.B.ExitBook.value_at c.args.book.now in
    let p = c.args.p.now in
    let before = c.loop-k.exits.items in
    let new = c.add_pairs.new.exits.items in
    let below = c.in-Some.ensures.below in (
      omega arith,
      one_man r value p c.loop-k.n c.in-Some.k c.in-Some.ensures c.args.exits.now.items before new
          c.loop-k.invariant.1
          (subst (λ (m : Step). Adds before new (LeavesBy r value p (Man m))) c.step_at-m.ensures
          (worth_there r p (Man c.step_at-m.result) c.man_leaves-pairs.result
          c.man_leaves-pairs.ensures value before new c.in_ok-add_pairs.ensures)),
    )

pub returns : goal.returns
returns g c =
    all_men c.args.configurations.now.rules.now (g.B.ExitBook.value_at c.args.book.now)
    c.args.p.now c.loop-k.n c.args.exits.now.items c.loop-k.exits.items c.in_default.ensures
    c.loop-k.invariant.1
