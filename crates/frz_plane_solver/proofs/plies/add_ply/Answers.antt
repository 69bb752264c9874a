use Rattle.std.proofs.Common.{◌+◌, ◌<◌, ◌∙◌, ℕ, Bool, List, length, ap, subst, sym, arith}
use Rattle.frz_plane_solver.specs.Decided.{ArePut, Decided, DecidedAt}
use Rattle.frz_plane_solver.specs.Marks.{MarksLast, marked_planes}
use Rattle.frz_plane_solver.specs.Walks.{IsIn}
use Rattle.frz_plane_solver.proofs.AllNumbers.{all_joined, in_planes, pair_found, told_by_planes}
use Rattle.frz_plane_solver.proofs.Marks.{marks_last}
use Rattle.frz_plane_solver.proofs.NextNumbers.{all_decided}
use Rattle.frz_plane_solver.proofs.Putting.{put_same}
use Rattle.frz_plane_solver.proofs.plies.add_ply.Goals as goal

pub settle_all-requires-clause-only : goal.settle_all-requires-clause-only
settle_all-requires-clause-only g c k a b l m n t =
    (c.fill_next.ensures.numbers k l).only a b m n t

pub returns-clause-decided : goal.returns-clause-decided
returns-clause-decided g c =
    let game = c.args.game.now in
    let arena = g.G.PlaneGame.arena game in
    let spots = g.G.PlaneGame.spots game in
    let placed = g.met.G.PlaneGame.placed game c.requires.sound in
    let side = c.args.side in
    let win = c.args.win in
    let n = c.args.plies in
    let old = c.args.decided.now in
    let more = c.fill_next.new.more in
    let was = c.requires.decided in
    let size = was.size in
    record {
      size = record {
        planes = c.join.ensures.many ∙ size.planes;
        marks = ap length c.join.ensures.marks ∙ c.fill_next.ensures.size.marks;
      };
      numbers = all_joined spots placed old.planes.items (marked_planes more)
          c.join.new.self.planes.items (Decided arena side win n)
          (DecidedAt arena side win (n + 1)) (Decided arena side win (n + 1))
          (λ i l. all_decided arena side win n i
          (told_by_planes spots placed old.planes.items (Decided arena side win n) was.numbers i l))
          was.numbers c.fill_next.ensures.numbers
          (λ k l. c.join.ensures.planes k (let w = size.planes in omega arith));
      last = subst (λ (marks : List Bool). MarksLast arena spots side win (n + 1) marks)
          (sym c.join.ensures.marks)
          (marks_last arena spots placed side win n old.planes.items more.planes.items
          more.marks.items was.numbers c.fill_next.ensures.numbers);
    }

pub returns-clause-put : goal.returns-clause-put
returns-clause-put g c =
    let game = c.args.game.now in
    let arena = g.G.PlaneGame.arena game in
    let spots = g.G.PlaneGame.spots game in
    let placed = g.met.G.PlaneGame.placed game c.requires.sound in
    let P : ℕ → Type 0 = DecidedAt arena c.args.side c.args.win (c.args.plies + 1) in
    let more = marked_planes c.fill_next.new.more in
    let both = in_planes spots placed more P c.fill_next.ensures.numbers in
    subst (λ (z : ℕ). ArePut (λ i. (i < spots.numbers) × P i) z c.args.codes.now
    c.settle_all.new.codes)
    c.code.ensures
    (put_same (IsIn spots more) (λ i. (i < spots.numbers) × P i) c.code.result c.args.codes.now
    c.settle_all.new.codes (λ i p. (p.0, (both i p.0).1 p.1)) (λ i h. (h.0, (both i h.0).0 h.1))
    c.settle_all.ensures)

pub returns-clause-none : goal.returns-clause-none
returns-clause-none g c none i l d =
    let game = c.args.game.now in
    let arena = g.G.PlaneGame.arena game in
    let spots = g.G.PlaneGame.spots game in
    let placed = g.met.G.PlaneGame.placed game c.requires.sound in
    let room = c.fill_next.ensures.size in
    let is_so = (in_planes spots placed (marked_planes c.fill_next.new.more)
    (DecidedAt arena c.args.side c.args.win (c.args.plies + 1)) c.fill_next.ensures.numbers i l).1 d
    in
    let inside = placed.configuration i l in
    let is_not = c.has_any.ensures.none none (spots.at i).configuration (spots.at i).white
    (spots.at i).black (let w = room.planes in omega arith) (placed.white i l) (placed.black i l) in
    cc

pub returns-clause-some : goal.returns-clause-some
returns-clause-some g c some =
    let game = c.args.game.now in
    let arena = g.G.PlaneGame.arena game in
    let room = c.fill_next.ensures.size in
    let found = c.has_any.ensures.some some in
    let inside = found.3 in
    pair_found (g.G.PlaneGame.spots game) (marked_planes c.fill_next.new.more)
    (DecidedAt arena c.args.side c.args.win (c.args.plies + 1)) c.fill_next.ensures.numbers
    found.0 found.1 found.2 (let w = room.planes in omega arith) found.4 found.5 found.6
