use Rattle.std.proofs.Common.{◌∙◌, sym, arith}
use Rattle.std.proofs.lemmas.Bool.{and_from, and_right}
use Rattle.frz_board.specs.Boards.{holds}
use Rattle.frz_board.specs.Attacks.{attacks}
use Rattle.frz_squares.proofs.Lemmas.{any_square, no_square}
use Rattle.frz_bits.specs.Words.{IsNext}
use Rattle.frz_bits.proofs.Gather.{hits, in_set, fails_on, fails_all}
use Rattle.frz_bits.proofs.Reaching.{hits_in, may_held}
use Rattle.frz_bits.specs.Reaching.{may_attack}
use Rattle.frz_bits.proofs.bitboards.Bitboards.is_attacked.Goals as goal

pub returns-then-attacks : goal.returns-then-attacks
returns-then-attacks c =
    let p = c.args.self.now in
    let a = c.in-Some.a in
    let men = c.men_in_reach-men.result in
    let next : IsNext men c.loop-a.n a = c.in-Some.ensures in
    let may = sym (in_set (may_attack p c.args.s c.args.by) men a c.men_in_reach-men.ensures
    next.on_board) ∙ next.there in
    sym (any_square (hits p c.args.s c.args.by) a next.on_board
    (and_from (holds p c.args.by a) (attacks p a c.args.s) (may_held p c.args.s c.args.by a may)
    (sym c.attacks.ensures ∙ c.if-attacks.true)))

pub loop-a-preserved : goal.loop-a-preserved
loop-a-preserved c =
    let p = c.args.self.now in
    let men = c.men_in_reach-men.result in
    let next : IsNext men c.loop-a.n c.in-Some.a = c.in-Some.ensures in
    let on = next.on_board in (
      omega arith,
      λ k l. fails_on (hits p c.args.s c.args.by) men c.loop-a.n c.in-Some.a
          (hits_in p c.args.s c.args.by men c.men_in_reach-men.ensures) next c.loop-a.invariant.1
          (and_right (holds p c.args.by c.in-Some.a) (attacks p c.in-Some.a c.args.s)
          (sym c.attacks.ensures ∙ c.if-attacks.false))
          k (let same = c.number-n.ensures.number in omega arith),
    )

pub returns : goal.returns
returns c =
    let p = c.args.self.now in
    let men = c.men_in_reach-men.result in
    sym (no_square (hits p c.args.s c.args.by)
    (fails_all (hits p c.args.s c.args.by) men c.loop-a.n
    (hits_in p c.args.s c.args.by men c.men_in_reach-men.ensures) c.in_default.ensures
    c.loop-a.invariant.1))
