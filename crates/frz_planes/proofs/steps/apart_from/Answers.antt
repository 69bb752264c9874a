use Rattle.std.proofs.Common.{◌*◌, ◌%◌, ◌^◌, ap, ◌∙◌, bit_or, w64}
use Rattle.std.specs.Int.{bit_not}
use Rattle.frz_planes.proofs.Apart.{apart_squares}
use Rattle.frz_planes.proofs.steps.apart_from.Goals as goal

pub returns : goal.returns
returns c =
    let king = 1 * 2 ^ c.args.a % 18446744073709551616 in
    ap (λ w. bit_not w64 (bit_or king w)) c.king_steps.ensures ∙ apart_squares c.args.a c.requires
