use Rattle.std.proofs.Common.{ℕ, eqb, false, cond, get_or, map, ap, ◌∙◌, arith, w8}
use Rattle.std.specs.Prelude.{◌==◌}
use Rattle.std.proofs.lemmas.Simd.{bit_mask_l, bitmask_splat}
use Rattle.std.proofs.lemmas.List.{get_or-map}
use Rattle.frz_squares.specs.SquareSets.{has_square}
use Rattle.frz_squares.proofs.Lemmas.{one_or_none}
use Rattle.frz_bits.proofs.lanes.cells_equal.Goals as goal

pub returns : goal.returns
returns c k l =
    let equal = λ (x : ℕ). eqb x c.args.cell in
    let cells = c.args.cells in
    ap (λ w. has_square w k)
    (bitmask_splat w8 eqb cells 64 c.args.cell c.fits-cells.0 (omega arith))
    ∙ ap (λ b. b == 1)
    (bit_mask_l (map equal cells) k ∙ ap (λ b. cond b 1 0)
    (get_or-map equal cells k 0 false (omega (arith, c.fits-cells.0))))
    ∙ one_or_none (equal (get_or cells k 0))
