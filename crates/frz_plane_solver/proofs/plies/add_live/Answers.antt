use Rattle.std.proofs.Common.{◌≡◌, ◌<◌, ℕ, List, subst, sym, arith}
use Rattle.std.proofs.lemmas.List.{with_items_is}
use Rattle.std.specs.Vec.{with_items}
use Rattle.frz_arena.specs.declared.node.Node.TheVariants.{Broken}
use Rattle.frz_plane_game.specs.Spots.{HaveNumbers}
use Rattle.frz_plane_solver.specs.Marks.{those_marked}
use Rattle.frz_plane_solver.specs.Walks.{IsIn}
use Rattle.frz_plane_solver.proofs.AllNumbers.{in_planes}
use Rattle.frz_plane_solver.proofs.Marks.{all_count}
use Rattle.frz_plane_solver.proofs.Putting.{put_same}
use Rattle.frz_plane_solver.proofs.plies.add_live.Goals as goal

pub settle_all-requires-clause-only : goal.settle_all-requires-clause-only
settle_all-requires-clause-only g c k a b l m n t =
    let game = c.args.game.now in
    let arena = g.G.PlaneGame.arena game in
    let spots = g.G.PlaneGame.spots game in
    let P : ℕ → Type 0 = λ i. arena.node i ≡ Broken → ⊥ in
    let room = c.args.room.now in
    let long = room.planes.ok.0 in
    let planes = (with_items room.planes c.fill_live.new.planes).items in
    let same : planes ≡ c.fill_live.new.planes =
    with_items_is room.planes c.fill_live.new.planes (omega arith) in
    (all_count spots room.marks.items planes P c.requires.marked
    (subst (λ (ps : List (List ℕ)). HaveNumbers spots ps P) (sym same) c.fill_live.ensures) k
    l).only a b m n t

pub returns-clause-put : goal.returns-clause-put
returns-clause-put g c =
    let game = c.args.game.now in
    let arena = g.G.PlaneGame.arena game in
    let spots = g.G.PlaneGame.spots game in
    let P : ℕ → Type 0 = λ i. arena.node i ≡ Broken → ⊥ in
    let room = c.args.room.now in
    let long = room.planes.ok.0 in
    let planes = (with_items room.planes c.fill_live.new.planes).items in
    let same : planes ≡ c.fill_live.new.planes =
    with_items_is room.planes c.fill_live.new.planes (omega arith) in
    let marked = those_marked room.marks.items planes in
    let both = in_planes spots (g.met.G.PlaneGame.placed game c.requires.sound) marked P
    (all_count spots room.marks.items planes P c.requires.marked
    (subst (λ (ps : List (List ℕ)). HaveNumbers spots ps P) (sym same) c.fill_live.ensures)) in
    put_same (IsIn spots marked) (λ i. (i < spots.numbers) × P i) 1 c.args.codes.now
    c.settle_all.new.codes (λ i p. (p.0, (both i p.0).1 p.1)) (λ i h. (h.0, (both i h.0).0 h.1))
    c.settle_all.ensures
