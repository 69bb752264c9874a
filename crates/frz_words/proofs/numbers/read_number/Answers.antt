use Rattle.std.proofs.Common.{◌≤◌, ◌^◌, arith, lit<}
use Rattle.std.proofs.Math.Nat.{pow-le-pow_right}
use Rattle.frz_words.proofs.numbers.read_number.Goals as goal

pub overflow_mul-value : goal.overflow_mul-value
overflow_mul-value c =
    let small : 10 ^ c.loop-digit.digit-index ≤ 10 ^ 8 =
    (let at : c.loop-digit.digit-index ≤ 8 = omega arith in pow-le-pow_right (lit< tt) at) in
    omega (arith, c.loop-digit.invariant.small, small)

pub overflow_add-value : goal.overflow_add-value
overflow_add-value c =
    let small : 10 ^ c.loop-digit.digit-index ≤ 10 ^ 8 =
    (let at : c.loop-digit.digit-index ≤ 8 = omega arith in pow-le-pow_right (lit< tt) at) in
    omega (arith, c.loop-digit.invariant.small, small)
