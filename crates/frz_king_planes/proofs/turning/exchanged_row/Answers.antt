use Rattle.std.proofs.Common.{◌≡◌, ◌*◌, ◌%◌, ◌^◌, sym, ◌∙◌, arith}
use Rattle.std.specs.Int.{bit_at}
use Rattle.std.proofs.lemmas.Nat.Bits.{bit_at-lt, shr_and_one}
use Rattle.frz_king_planes.proofs.Exchanges.{lower_row, step_is, upper_row}
use Rattle.frz_king_planes.proofs.turning.exchanged_row.Goals as goal

pub returns-then-a-i-eq0 : goal.returns-then-a-i-eq0
returns-then-a-i-eq0 c b lb =
    rw (← c.plane.view_is)
    (lower_row c.plane.inside.0 c.args.i c.args.a b (1 * 2 ^ c.args.i % 2 ^ 64) c.requires.bit lb
    (step_is c.args.i c.requires.bit)
    (sym (shr_and_one c.args.a c.args.i) ∙ c.if-a-i-eq0.true))

pub returns-else-a-i-eq0 : goal.returns-else-a-i-eq0
returns-else-a-i-eq0 c b lb =
    let is = shr_and_one c.args.a c.args.i in
    let low = bit_at-lt c.args.a c.args.i in
    let set : bit_at c.args.a c.args.i ≡ 1 = omega (arith, c.if-a-i-eq0.false) in
    rw (← c.plane.view_is)
    (upper_row c.plane.inside.0 c.args.i c.args.a b (1 * 2 ^ c.args.i % 2 ^ 64) c.requires.bit lb
    (step_is c.args.i c.requires.bit) set)
