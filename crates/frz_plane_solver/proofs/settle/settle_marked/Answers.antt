use Rattle.std.proofs.Common.{◌≡◌, ◌∙◌, ℕ, List, ap, subst, true, arith}
use Rattle.frz_planes.specs.Planes.{has_pair}
use Rattle.frz_plane_game.specs.Spots.{plane_at}
use Rattle.frz_plane_solver.specs.Decided.{ArePut}
use Rattle.frz_plane_solver.specs.Marks.{marked_planes}
use Rattle.frz_plane_solver.proofs.Marks.{mark_read, no_pair, none_there, plane_read}
use Rattle.frz_plane_solver.proofs.Putting.{IsHere, put_none}
use Rattle.frz_plane_solver.proofs.settle.settle_marked.Goals as goal

pub returns-then-not-index : goal.returns-then-not-index
returns-then-not-index g c =
    let spots = g.G.PlaneGame.spots c.args.game.now in
    let marked = c.args.marked.now in
    let k = c.args.configuration in
    let inside = c.requires.inside in
    let many = c.requires.size.marks in
    let none = none_there marked.marks.items marked.planes.items k
    (mark_read marked.marks.items k c.index.result.now c.index.ensures (omega arith)
    ∙ c.if-not-index.true) in
    put_none (IsHere spots k (plane_at (marked_planes marked) k)) c.args.code c.args.codes.now
    (λ i h. (
    let s = spots.at i in
    let is_so = h.2 in
    let is_not = ap (λ (p : List ℕ). has_pair p s.white s.black) none ∙ no_pair s.white s.black in
    cc))

pub settle-requires-clause-only : goal.settle-requires-clause-only
settle-requires-clause-only g c a b la lb there =
    let marked = c.args.marked.now in
    let k = c.args.configuration in
    let inside = c.requires.inside in
    let many = c.requires.size.marks in
    let planes = c.requires.size.planes in
    let read = plane_read marked.marks.items marked.planes.items k c.index-2.result.now
    c.index-2.ensures (omega arith)
    (mark_read marked.marks.items k c.index.result.now c.index.ensures (omega arith)
    ∙ c.if-not-index.false) in
    c.requires.only a b la lb (subst (λ (p : List ℕ). has_pair p a b ≡ true) read there)

pub returns : goal.returns
returns g c =
    let marked = c.args.marked.now in
    let k = c.args.configuration in
    let inside = c.requires.inside in
    let many = c.requires.size.marks in
    let planes = c.requires.size.planes in
    let read = plane_read marked.marks.items marked.planes.items k c.index-2.result.now
    c.index-2.ensures (omega arith)
    (mark_read marked.marks.items k c.index.result.now c.index.ensures (omega arith)
    ∙ c.if-not-index.false) in
    subst (λ (p : List ℕ). ArePut (IsHere (g.G.PlaneGame.spots c.args.game.now) k p) c.args.code
    c.args.codes.now c.settle.new.codes) read c.settle.ensures
