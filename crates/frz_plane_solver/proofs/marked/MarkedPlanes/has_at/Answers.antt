use Rattle.std.proofs.Common.{◌≡◌, ◌∙◌, ℕ, List, ap, sym, subst, true, arith}
use Rattle.frz_planes.specs.Planes.{has_pair}
use Rattle.frz_plane_solver.proofs.Marks.{mark_read, no_pair, none_there, plane_read}
use Rattle.frz_plane_solver.proofs.Putting.{no_pair_there, pair_there}
use Rattle.frz_plane_solver.proofs.marked.MarkedPlanes.has_at.Goals as goal

pub returns-then-not-index-clause-none : goal.returns-then-not-index-clause-none
returns-then-not-index-clause-none c _ a b la lb =
    let self = c.args.self.now in
    let many = c.requires.marks in
    ap (λ (p : List ℕ). has_pair p a b)
    (none_there self.marks.items self.planes.items c.args.configuration
    (mark_read self.marks.items c.args.configuration c.index.result.now c.index.ensures
    (omega arith) ∙ c.if-not-index.true))
    ∙ no_pair a b

pub returns-clause-none : goal.returns-clause-none
returns-clause-none c off a b la lb =
    let self = c.args.self.now in
    let many = c.requires.marks in
    let k = c.args.configuration in
    let none = no_pair_there c.index-2.result.now c.next_pair.result
    (sym c.is_some.ensures ∙ off) c.next_pair.ensures in
    let read = plane_read self.marks.items self.planes.items k c.index-2.result.now
    c.index-2.ensures c.requires.planes
    (mark_read self.marks.items k c.index.result.now c.index.ensures (omega arith)
    ∙ c.if-not-index.false) in
    ap (λ (p : List ℕ). has_pair p a b) (sym read) ∙ none.none a b la lb (omega arith)

pub returns-clause-some : goal.returns-clause-some
returns-clause-some c on =
    let self = c.args.self.now in
    let many = c.requires.marks in
    let k = c.args.configuration in
    let next = pair_there c.index-2.result.now c.next_pair.result
    (sym c.is_some.ensures ∙ on) c.next_pair.ensures in
    let read = plane_read self.marks.items self.planes.items k c.index-2.result.now
    c.index-2.ensures c.requires.planes
    (mark_read self.marks.items k c.index.result.now c.index.ensures (omega arith)
    ∙ c.if-not-index.false) in (
      next.0,
      next.1,
      next.2.white,
      next.2.black,
      subst (λ (p : List ℕ). has_pair p next.0 next.1 ≡ true) read next.2.there,
    )
