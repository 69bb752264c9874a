use Rattle.std.proofs.Common.{◌≡◌, ◌<◌, ◌∙◌, ℕ, List, length, ap, subst, sym, arith}
use Rattle.std.proofs.lemmas.List.{with_items_is}
use Rattle.std.specs.Vec.{with_items}
use Rattle.frz_plane_game.specs.Spots.{HaveNumbers}
use Rattle.frz_plane_solver.specs.Decided.{ArePut, Decided}
use Rattle.frz_plane_solver.specs.Marks.{those_marked}
use Rattle.frz_plane_solver.specs.Walks.{IsIn}
use Rattle.frz_plane_solver.proofs.AllNumbers.{in_planes}
use Rattle.frz_plane_solver.proofs.Marks.{all_count, marks_first}
use Rattle.frz_plane_solver.proofs.Putting.{put_same}
use Rattle.frz_plane_solver.proofs.plies.add_first.Goals as goal

pub settle_all-requires-clause-only : goal.settle_all-requires-clause-only
settle_all-requires-clause-only g c k a b l m n t =
    let game = c.args.game.now in
    let spots = g.G.PlaneGame.spots game in
    let P : ℕ → Type 0 = Decided (g.G.PlaneGame.arena game) c.args.side c.args.win 0 in
    let old = c.args.decided.now in
    let long = old.planes.ok.0 in
    let planes = (with_items old.planes c.fill_first.new.planes).items in
    let same : planes ≡ c.fill_first.new.planes =
    with_items_is old.planes c.fill_first.new.planes (omega arith) in
    (all_count spots old.marks.items planes P c.requires.marked
    (subst (λ (ps : List (List ℕ)). HaveNumbers spots ps P) (sym same) c.fill_first.ensures) k
    l).only a b m n t

pub returns-clause-decided : goal.returns-clause-decided
returns-clause-decided g c =
    let game = c.args.game.now in
    let arena = g.G.PlaneGame.arena game in
    let spots = g.G.PlaneGame.spots game in
    let P : ℕ → Type 0 = Decided arena c.args.side c.args.win 0 in
    let size = c.requires.size in
    let old = c.args.decided.now in
    let long = old.planes.ok.0 in
    let many = size.planes in
    let planes = (with_items old.planes c.fill_first.new.planes).items in
    let same : planes ≡ c.fill_first.new.planes =
    with_items_is old.planes c.fill_first.new.planes (omega arith) in
    record {
      size = record { planes = ap length same ∙ omega arith; marks = size.marks };
      numbers = subst (λ (ps : List (List ℕ)). HaveNumbers spots ps P) (sym same)
          c.fill_first.ensures;
      last = marks_first arena spots c.args.side c.args.win old.marks.items;
    }

pub returns-clause-put : goal.returns-clause-put
returns-clause-put g c =
    let game = c.args.game.now in
    let arena = g.G.PlaneGame.arena game in
    let spots = g.G.PlaneGame.spots game in
    let P : ℕ → Type 0 = Decided arena c.args.side c.args.win 0 in
    let old = c.args.decided.now in
    let long = old.planes.ok.0 in
    let planes = (with_items old.planes c.fill_first.new.planes).items in
    let same : planes ≡ c.fill_first.new.planes =
    with_items_is old.planes c.fill_first.new.planes (omega arith) in
    let marked = those_marked old.marks.items planes in
    let both = in_planes spots (g.met.G.PlaneGame.placed game c.requires.sound) marked P
    (all_count spots old.marks.items planes P c.requires.marked
    (subst (λ (ps : List (List ℕ)). HaveNumbers spots ps P) (sym same) c.fill_first.ensures)) in
    subst (λ (z : ℕ). ArePut (λ i. (i < spots.numbers) × P i) z c.args.codes.now
    c.settle_all.new.codes)
    c.code.ensures
    (put_same (IsIn spots marked) (λ i. (i < spots.numbers) × P i) c.code.result c.args.codes.now
    c.settle_all.new.codes (λ i p. (p.0, (both i p.0).1 p.1)) (λ i h. (h.0, (both i h.0).0 h.1))
    c.settle_all.ensures)
