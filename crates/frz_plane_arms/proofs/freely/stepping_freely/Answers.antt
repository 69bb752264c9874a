use Rattle.std.proofs.Common.{◌&&◌, ◌+◌, List, ℕ, false, subst, sym}
use Rattle.frz_planes.specs.Planes.{IsPlaneOf, has_pair}
use Rattle.frz_plane_arms.specs.Binding.{arrives_freely}
use Rattle.frz_plane_arms.proofs.FreeSteps.{AreStepped, begun, ended, none_stepped, one_more, passed_by}
use Rattle.frz_plane_arms.proofs.freely.stepping_freely.Goals as goal
use Rattle.frz_plane_arms.proofs.freely.stepping_freely.Goals.{then-is_partly_bound, else-is_partly_bound}

pub returns-then-is_empty : goal.returns-then-is_empty
returns-then-is_empty c =
    none_stepped c.args.lines.now c.args.turn c.args.before.now c.args.after.now c.empty.result
    (c.is_empty.ensures.0 c.if-is_empty.true) c.empty.ensures

pub loop-s-init : goal.loop-s-init
loop-s-init c =
    begun c.args.lines.now c.args.turn c.args.before.now c.args.after.now
    c.bound_squares-bound.result c.bound_squares-bound.type_inv c.bound_squares-bound.ensures
    c.keep_king.new.pairs c.stepping_pairs-pairs.result c.keep_king.ensures
    c.stepping_pairs-pairs.ensures.plane

pub loop-s-preserved : goal.loop-s-preserved
loop-s-preserved c =
    elim c.if-is_partly_bound.branch [
      | then-is_partly_bound w ↦ subst (λ (pairs : List ℕ). AreStepped c.args.lines.now c.args.turn
          c.args.before.now c.args.after.now c.bound_squares-bound.result (c.loop-s.s + 1) pairs)
          (sym w.pairs-is)
          (one_more c.args.lines.now c.args.turn c.args.before.now c.args.after.now
          c.bound_squares-bound.result c.loop-s.s c.loop-s.pairs w.arriving_freely.result
          w.union_with.new.self c.loop-s.invariant c.loop-s-test.true
          (subst (λ (s : ℕ). IsPlaneOf w.arriving_freely.result
          (λ a b. arrives_freely c.args.lines.now c.args.turn false s c.args.after.now a b
          && has_pair c.args.before.now a b)) w.at.ensures w.arriving_freely.ensures.plane)
          w.union_with.ensures)
      | else-is_partly_bound w ↦ subst (λ (pairs : List ℕ). AreStepped c.args.lines.now c.args.turn
          c.args.before.now c.args.after.now c.bound_squares-bound.result (c.loop-s.s + 1) pairs)
          (sym w.pairs-is)
          (passed_by c.args.lines.now c.args.turn c.args.before.now c.args.after.now
          c.bound_squares-bound.result c.loop-s.s c.loop-s.pairs c.loop-s.invariant
          (c.is_partly_bound.ensures w.if-is_partly_bound.false))
    ]

pub returns : goal.returns
returns c =
    ended c.args.lines.now c.args.turn c.args.before.now c.args.after.now
    c.bound_squares-bound.result c.loop-s.s c.loop-s.pairs c.loop-s.invariant c.loop-s-test.false
