use Rattle.std.proofs.Common.{◌+◌, ◌∙◌, ◌||◌, ℕ, List, ap, refl, subst, sym, arith}
use Rattle.frz_planes.specs.Planes.{has_pair}
use Rattle.frz_plane_game.specs.Spots.{plane_at}
use Rattle.frz_plane_solver.specs.Marks.{marked_planes}
use Rattle.frz_plane_solver.proofs.Filling.{same_plane}
use Rattle.frz_plane_solver.proofs.Joining.{AreJoined, joined_more, joined_none}
use Rattle.frz_plane_solver.proofs.Marks.{mark_read, none_there, plane_read}
use Rattle.frz_plane_solver.proofs.marked.join_marked.Goals as goal
use Rattle.frz_plane_solver.proofs.marked.join_marked.Goals.{then-index, else-index}

pub loop-c-init : goal.loop-c-init
loop-c-init c = record {
  joined = λ k l. absurd (omega arith);
  rest = λ k l. refl;
}

pub loop-c-preserved : goal.loop-c-preserved
loop-c-preserved c =
    let old = c.args.planes.now in
    let more = c.args.more.now in
    let marks = more.marks.items in
    let planes = c.loop-c.planes in
    let n = c.loop-c.c in
    let low = c.loop-c-test.true in
    let many = c.requires.planes in
    let many_marks = c.requires.marks in
    elim c.if-index.branch [
      | then-index w ↦ (
          let mark = mark_read marks n c.index.result.now c.index.ensures (omega arith)
          ∙ w.if-index.true in
          let here = w.index-planes-c.is
          ∙ same_plane planes n w.index-planes-c.result (omega arith) in
          let there = plane_read marks more.planes.items n w.index-then-index.result.now
          w.index-then-index.ensures (omega arith) mark in
          subst (λ (ps : List (List ℕ)). AreJoined old (marked_planes more) (n + 1) ps)
          (sym w.planes-is)
          (joined_more old (marked_planes more) planes n c.loop-c.invariant w.union_with.new.self
          (omega arith)
          (λ a b la lb. w.union_with.ensures a b la lb
          ∙ ap (λ (p : List ℕ). has_pair p a b || has_pair w.index-then-index.result.now a b) here
          ∙ ap (λ (p : List ℕ). has_pair (plane_at planes n) a b || has_pair p a b) there)))
      | else-index w ↦ (
          let mark = mark_read marks n c.index.result.now c.index.ensures (omega arith)
          ∙ w.if-index.false in
          subst (λ (ps : List (List ℕ)). AreJoined old (marked_planes more) (n + 1) ps)
          (sym w.planes-is)
          (joined_none old (marked_planes more) planes n c.loop-c.invariant
          (none_there marks more.planes.items n mark)))
    ]

pub returns : goal.returns
returns c k l = c.loop-c.invariant.joined k (omega arith)
