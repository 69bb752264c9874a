use Rattle.std.proofs.Common.{◌<◌, arith, get_or, length}
use Rattle.frz_squares.specs.SquareSets.{has_square, set_of}
use Rattle.frz_squares.specs.Steps.{any_step}
use Rattle.frz_squares.proofs.Lemmas.{has-set_of}
use Rattle.frz_planes.proofs.Rows.{filled_is, filled_more}
use Rattle.frz_planes.proofs.plane.Plane.step_black.Goals as goal

pub loop-i-preserved : goal.loop-i-preserved
loop-i-preserved c =
    let size : c.loop-i.i < length c.loop-i.row-items = omega (arith, c.loop-i-test.true, c.type_inv) in
    filled_more (λ k. set_of (λ s. any_step s (has_square (get_or c.self.inside.0 k 0))))
    c.loop-i.i c.king_steps.result c.loop-i.row-items size c.king_steps.ensures c.loop-i.invariant

pub returns : goal.returns
returns c =
    rw (← c.self.view_is)
    (filled_is (λ k. set_of (λ s. any_step s (has_square (get_or c.self.inside.0 k 0)))) _
    c.loop-i.i _ c.loop-i.invariant (omega arith)
    (λ a b la lb. has-set_of (λ s. any_step s (has_square (get_or c.self.inside.0 a 0))) b lb))
