use Rattle.std.proofs.Common.{◌≡◌, ℕ, arith, subst}
use Rattle.frz_board.specs.Boards.{Board}
use Rattle.frz_plane_exits.specs.Adding.{Adds, LeavesBy}
use Rattle.frz_plane_exits.specs.Leaving.{IsLeft}
use Rattle.frz_plane_exits.specs.declared.mover.Mover.TheVariants.{King}
use Rattle.frz_plane_exits.proofs.AllKings.{all_kings, one_king}
use Rattle.frz_plane_exits.proofs.LeavingPlanes.{valid_then, worth_there}
use Rattle.frz_plane_exits.proofs.exits.add_kings.Goals as goal

pub king_leaves-pairs-requires-clause-quiet : goal.king_leaves-pairs-requires-clause-quiet
king_leaves-pairs-requires-clause-quiet g c =
    subst (λ (q : Board). IsLeft c.args.configurations.now.rules.now.groups q c.left_of-quiet.result)
    c.hand_over.ensures c.left_of-quiet.ensures

pub add_pairs-requires : goal.add_pairs-requires
add_pairs-requires g c =
    valid_then c.args.configurations.now.rules.now c.args.p.now (King c.at-s.result)
    c.king_leaves-pairs.result c.king_leaves-pairs.ensures

pub loop-n-preserved : goal.loop-n-preserved
loop-n-preserved g c =
    let r = c.args.configurations.now.rules.now in
    let value = g.B.ExitBook.value_at c.args.book.now in
    let p = c.args.p.now in
    let before = c.loop-n.exits.items in
    let new = c.add_pairs.new.exits.items in
    one_king r value p c.loop-n.n c.args.exits.now.items before new c.loop-n.invariant
    (subst (λ (s : ℕ). Adds before new (LeavesBy r value p (King s))) c.at-s.ensures
    (worth_there r p (King c.at-s.result) c.king_leaves-pairs.result c.king_leaves-pairs.ensures
    value before new c.in_ok-add_pairs.ensures))

pub returns : goal.returns
returns g c =
    let below = c.loop-n.auto.n-end in
    let end : c.loop-n.n ≡ 64 = omega arith in
    all_kings c.args.configurations.now.rules.now (g.B.ExitBook.value_at c.args.book.now)
    c.args.p.now c.loop-n.n c.args.exits.now.items c.loop-n.exits.items end c.loop-n.invariant
