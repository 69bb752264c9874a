use Rattle.std.proofs.Common.{ℕ, ◌+◌, ◌&&◌, ◌∙◌, ap, arith, bit_or, cond, subst, sym, w64}
use Rattle.std.specs.Prelude.{◌==◌}
use Rattle.std.specs.Int.{bit_not}
use Rattle.frz_board.specs.Attacks.{attacks}
use Rattle.frz_board.specs.Boards.{is_empty}
use Rattle.frz_squares.specs.SquareSets.{has_square}
use Rattle.frz_squares.specs.Words.{HasNoneFrom, IsNext}
use Rattle.frz_planes.specs.Planes.{has_pair}
use Rattle.frz_king_planes.proofs.JoinedAttacks.{IsJoined, joined_all, joined_more}
use Rattle.frz_king_planes.proofs.attack.join_attacks.Goals as goal

pub loop-s-preserved : goal.loop-s-preserved
loop-s-preserved c =
    let squares = c.attacked_by-squares.result in
    let s = c.in-Some.s in
    let next : IsNext squares c.loop-s.n s = c.in-Some.ensures in
    let on = next.on_board in
    let same = c.number-n.ensures.number in
    let again = c.number-in-Some.ensures.number in
    let joined = joined_more squares c.args.m c.loop-s.n s c.row.result c.between.result
    c.args.pairs.now c.loop-s.pairs c.set_row.new.self next c.loop-s.invariant.1 c.between.ensures
    (λ y ly. c.row.ensures y ly ∙ ap (λ k. has_pair c.loop-s.pairs k y) c.number.ensures.number)
    (λ x y lx ly. c.set_row.ensures x y lx ly
    ∙ ap (λ k. cond (x == k) (has_square (bit_or c.row.result (bit_not w64 c.between.result)) y)
    (has_pair c.loop-s.pairs x y)) again) in (
      omega arith,
      subst (λ (k : ℕ). IsJoined squares c.args.m c.args.pairs.now c.set_row.new.self (k + 1))
          (sym same) joined,
    )

pub returns : goal.returns
returns c =
    let end : HasNoneFrom c.attacked_by-squares.result c.loop-s.n = c.in_default.ensures in
    joined_all c.attacked_by-squares.result c.args.m c.loop-s.n c.args.pairs.now c.loop-s.pairs
    (λ s. is_empty c.args.p.now s && attacks c.args.p.now c.args.m s) c.attacked_by-squares.ensures
    end c.loop-s.invariant.1
