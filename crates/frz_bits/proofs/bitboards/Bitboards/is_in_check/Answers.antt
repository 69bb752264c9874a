use Rattle.std.proofs.Common.{◌∙◌, ap, sym, arith}
use Rattle.std.proofs.lemmas.Bool.{and_from, and_right}
use Rattle.frz_board.specs.declared.man.Kind.TheVariants.{King}
use Rattle.frz_board.specs.Men.{other_of}
use Rattle.frz_board.specs.Boards.{has}
use Rattle.frz_board.specs.Attacks.{is_attacked}
use Rattle.frz_squares.proofs.Lemmas.{any_square, no_square}
use Rattle.frz_bits.specs.Words.{IsNext}
use Rattle.frz_bits.proofs.Gather.{checks, checks_in, in_set, fails_on, fails_all}
use Rattle.frz_bits.proofs.bitboards.Bitboards.is_in_check.Goals as goal

pub returns-then-is_attacked : goal.returns-then-is_attacked
returns-then-is_attacked c =
    let p = c.args.self.now in
    let s = c.in-Some.s in
    let kings = c.men-kings.result in
    let next : IsNext kings c.loop-s.n s = c.in-Some.ensures in
    let king = sym (in_set (has p c.args.c King) kings s c.men-kings.ensures next.on_board)
    ∙ next.there in
    sym (any_square (checks p c.args.c) s next.on_board
    (and_from (has p c.args.c King s) (is_attacked p s (other_of c.args.c)) king
    (sym (c.is_attacked.ensures ∙ ap (is_attacked p s) c.other.ensures.other)
    ∙ c.if-is_attacked.true)))

pub loop-s-preserved : goal.loop-s-preserved
loop-s-preserved c =
    let p = c.args.self.now in
    let s = c.in-Some.s in
    let kings = c.men-kings.result in
    let next : IsNext kings c.loop-s.n s = c.in-Some.ensures in
    let on = next.on_board in (
      omega arith,
      λ k l. fails_on (checks p c.args.c) kings c.loop-s.n s
          (checks_in p c.args.c kings c.men-kings.ensures) next c.loop-s.invariant.1
          (and_right (has p c.args.c King s) (is_attacked p s (other_of c.args.c))
          (sym (c.is_attacked.ensures ∙ ap (is_attacked p s) c.other.ensures.other)
          ∙ c.if-is_attacked.false))
          k (let same = c.number-n.ensures.number in omega arith),
    )

pub returns : goal.returns
returns c =
    let p = c.args.self.now in
    let kings = c.men-kings.result in
    sym (no_square (checks p c.args.c)
    (fails_all (checks p c.args.c) kings c.loop-s.n
    (checks_in p c.args.c kings c.men-kings.ensures) c.in_default.ensures c.loop-s.invariant.1))
