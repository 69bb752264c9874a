use Rattle.std.proofs.Common.{◌+◌, ◌∙◌, ◌&&◌, ap, sym, arith}
use Rattle.frz_squares.specs.SquareSets.{bits_below}
use Rattle.frz_board.specs.Attacks.{attacks}
use Rattle.frz_bits.specs.Reaching.{may_attack}
use Rattle.frz_bits.specs.Words.{IsNext}
use Rattle.frz_bits.proofs.Gather.{hits, in_set, walk_room, walk_next, walk_end}
use Rattle.frz_bits.proofs.Reaching.{hits_in, may_held}
use Rattle.frz_bits.proofs.bitboards.Bitboards.attackers.Goals as goal

pub with_square-word-requires : goal.with_square-word-requires
with_square-word-requires c =
    walk_room (hits c.args.self.now c.args.s c.args.by) c.men_in_reach-men.result
    (hits_in c.args.self.now c.args.s c.args.by c.men_in_reach-men.result
    c.men_in_reach-men.ensures) c.loop-a.n c.in-Some.a c.loop-a.word c.loop-a.invariant.1
    c.in-Some.ensures

pub loop-a-preserved : goal.loop-a-preserved
loop-a-preserved c =
    let p = c.args.self.now in
    let a = c.in-Some.a in
    let men = c.men_in_reach-men.result in
    let next : IsNext men c.loop-a.n a = c.in-Some.ensures in
    let on = next.on_board in
    let may = sym (in_set (may_attack p c.args.s c.args.by) men a c.men_in_reach-men.ensures
    next.on_board) ∙ next.there in (
      omega arith,
      walk_next (hits p c.args.s c.args.by) men
          (hits_in p c.args.s c.args.by men c.men_in_reach-men.ensures) c.loop-a.n a c.loop-a.word
          c.with_square-word.result c.attacks.result c.loop-a.invariant.1 next
          c.with_square-word.ensures
          (c.attacks.ensures ∙ ap (λ x. x && attacks p a c.args.s)
          (sym (may_held p c.args.s c.args.by a may)))
          ∙ ap (λ n. bits_below (hits p c.args.s c.args.by) (n + 1))
          (sym c.number-n.ensures.number),
    )

pub returns : goal.returns
returns c =
    walk_end (hits c.args.self.now c.args.s c.args.by) c.men_in_reach-men.result
    (hits_in c.args.self.now c.args.s c.args.by c.men_in_reach-men.result
    c.men_in_reach-men.ensures) c.loop-a.n c.loop-a.word c.loop-a.invariant.0 c.loop-a.invariant.1
    c.in_default.ensures
