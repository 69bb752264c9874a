use Rattle.std.proofs.Common.{arith}
use Rattle.frz_bits.specs.Words.{IsNext}
use Rattle.frz_bits.proofs.Attacked.{gathered_all, gathered_next, gathered_none}
use Rattle.frz_bits.proofs.bitboards.Bitboards.attacked.Goals as goal

pub loop-a-init : goal.loop-a-init
loop-a-init c = record {
  within = omega arith;
  small = omega arith;
  gathered = gathered_none c.args.self.now c.args.by;
}

pub loop-a-preserved : goal.loop-a-preserved
loop-a-preserved c =
    let next : IsNext c.side-men.result c.loop-a.n c.in-Some.a = c.in-Some.ensures in
    let on = next.on_board in
    let n = c.number-n.ensures.number in
    record {
      within = omega (arith, on, n);
      small = c.either-word.type_inv;
      gathered = rw c.number-n.ensures.number
          (gathered_next c.args.self.now c.args.by c.side-men.result c.side-men.ensures c.loop-a.n
          c.in-Some.a c.loop-a.word c.attacked_from.result c.either-word.result next
          c.loop-a.invariant.gathered c.attacked_from.ensures c.either-word.ensures);
    }

pub returns : goal.returns
returns c =
    gathered_all c.args.self.now c.args.by c.side-men.result c.side-men.ensures c.loop-a.n
    c.loop-a.word c.loop-a.invariant.small c.loop-a.invariant.gathered c.in_default.ensures
