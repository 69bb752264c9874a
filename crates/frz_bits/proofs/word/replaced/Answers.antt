use Rattle.std.proofs.Common.{◌<◌, arith, ◌*◌, ◌%◌, ◌^◌, ◌∙◌, ap, sym, bit_and, bit_or, w64}
use Rattle.std.specs.Prelude.{◌==◌, if◌then◌else◌}
use Rattle.std.specs.Int.{bit_not}
use Rattle.frz_squares.specs.SquareSets.{has_square}
use Rattle.frz_bits.proofs.Put.{put_in, taken_out}
use Rattle.frz_bits.proofs.word.replaced.Goals as goal

pub returns-then-put_in : goal.returns-then-put_in
returns-then-put_in c k l =
    let same = c.number.ensures.number in let low = c.number.ensures.on_board in
    let on : c.args.s < 64 = omega arith in
    ap (λ s. has_square (bit_or c.args.word (1 * 2 ^ s % 2 ^ 64)) k) c.number.ensures.number
    ∙ put_in c.args.word c.args.s k on l
    ∙ ap (λ x. if k == c.args.s then x else has_square c.args.word k) (sym c.if-put_in.true)

pub returns-else-put_in : goal.returns-else-put_in
returns-else-put_in c k l =
    let same = c.number.ensures.number in let low = c.number.ensures.on_board in
    let on : c.args.s < 64 = omega arith in
    ap (λ s. has_square (bit_and c.args.word (bit_not w64 (1 * 2 ^ s % 2 ^ 64))) k)
    c.number.ensures.number
    ∙ taken_out c.args.word c.args.s k on l
    ∙ ap (λ x. if k == c.args.s then x else has_square c.args.word k) (sym c.if-put_in.false)
