use Rattle.std.proofs.Common.{◌&&◌, ℕ}
use Rattle.frz_squares.specs.SquareSets.{has_square}
use Rattle.frz_squares.proofs.Lemmas.{has-zero}
use Rattle.frz_sets.specs.declared.forbid.Forbid.{Forbid}
use Rattle.frz_plane_arms.specs.Binding.{is_binding}
use Rattle.frz_plane_arms.proofs.Marked.{all_marked, marked_more}
use Rattle.frz_plane_arms.proofs.binding.bound_squares.Goals as goal

pub loop-line-init : goal.loop-line-init
loop-line-init c = record { marked = λ s ls. has-zero s }

pub loop-line-preserved : goal.loop-line-preserved
loop-line-preserved c =
    marked_more
    (λ (line : Forbid) (s : ℕ). is_binding c.args.side c.args.captures line && has_square line.to s)
    c.args.lines.now c.loop-line.line-index c.loop-line.squares c.ends-squares.result
    c.line-item.result c.loop-line-test.true c.line-item.is c.loop-line.invariant
    c.ends-squares.ensures

pub returns : goal.returns
returns c =
    all_marked
    (λ (line : Forbid) (s : ℕ). is_binding c.args.side c.args.captures line && has_square line.to s)
    c.args.lines.now c.loop-line.line-index c.loop-line.squares c.loop-line-test.false
    c.loop-line.invariant
