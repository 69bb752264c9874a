use Rattle.std.proofs.Common.{◌&&◌, ◌∙◌, ◌<◌, ◌^◌, ap, arith, not, ℕ}
use Rattle.frz_squares.specs.SquareSets.{has_square}
use Rattle.frz_squares.proofs.Lemmas.{has-not, has-zero}
use Rattle.frz_sets.specs.declared.forbid.Forbid.{Forbid}
use Rattle.frz_plane_arms.specs.Binding.{is_binding}
use Rattle.frz_plane_arms.proofs.Marked.{all_marked, marked_more}
use Rattle.frz_plane_arms.proofs.binding.free_origins.Goals as goal

pub loop-line-init : goal.loop-line-init
loop-line-init c = record { marked = λ s ls. has-zero s }

pub loop-line-preserved : goal.loop-line-preserved
loop-line-preserved c =
    marked_more
    (λ (line : Forbid) (a : ℕ). (is_binding c.args.side c.args.captures line
    && has_square line.to c.args.s) && has_square line.from a)
    c.args.lines.now c.loop-line.line-index c.loop-line.bound c.origins-bound.result
    c.line-item.result c.loop-line-test.true c.line-item.is c.loop-line.invariant
    c.origins-bound.ensures

pub returns : goal.returns
returns c a la =
    let small : c.loop-line.bound < 2 ^ 64 = omega arith in
    has-not c.loop-line.bound a small la
    ∙ ap not (all_marked
    (λ (line : Forbid) (a : ℕ). (is_binding c.args.side c.args.captures line
    && has_square line.to c.args.s) && has_square line.from a)
    c.args.lines.now c.loop-line.line-index c.loop-line.bound c.loop-line-test.false
    c.loop-line.invariant a la)
