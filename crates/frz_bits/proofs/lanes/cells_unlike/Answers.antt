use Rattle.std.proofs.Common.{◌%◌, ◌^◌, ℕ, eqb, not, false, cond, get_or, ap, ◌∙◌, arith, w8}
use Rattle.std.specs.Prelude.{◌==◌}
use Rattle.std.proofs.lemmas.Simd.{bit_mask_l, get_or-zip2, length-zip2, mask_l-mod, tops_compared}
use lib.Lanes.{mask_l, zip2}
use Rattle.frz_squares.specs.SquareSets.{has_square}
use Rattle.frz_squares.proofs.Lemmas.{one_or_none}
use Rattle.frz_bits.proofs.lanes.cells_unlike.Goals as goal

pub returns : goal.returns
returns c k l =
    let differ = λ (x y : ℕ). not (eqb x y) in
    let cells = c.args.cells in
    let others = c.args.others in
    let tests = zip2 differ cells others in
    let size = length-zip2 differ cells others (omega (arith, c.fits-cells.0, c.fits-others.0)) in
    ap (λ w. has_square w k)
    (ap (λ bs. mask_l bs % 2 ^ 64) (tops_compared w8 differ cells others)
    ∙ mask_l-mod tests 64 (omega (arith, size, c.fits-cells.0)))
    ∙ ap (λ b. b == 1)
    (bit_mask_l tests k ∙ ap (λ b. cond b 1 0)
    (get_or-zip2 differ cells others k 0 0 false (omega (arith, c.fits-cells.0))
    (omega (arith, c.fits-others.0))))
    ∙ one_or_none (differ (get_or cells k 0) (get_or others k 0))
