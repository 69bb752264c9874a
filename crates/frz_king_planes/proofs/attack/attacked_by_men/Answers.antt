use Rattle.std.proofs.Common.{ℕ, ◌+◌, ◌||◌, ◌&&◌, not, ◌∙◌, ap, arith, get_or, subst, sym}
use Rattle.frz_board.specs.Attacks.{attacks}
use Rattle.frz_board.specs.Lines.{is_between}
use Rattle.frz_squares.specs.Words.{HasNoneFrom, IsNext}
use Rattle.frz_planes.specs.Planes.{has_pair}
use Rattle.frz_king_planes.proofs.OpenSquares.{IsOpen, all_open, none_yet, one_more}
use Rattle.frz_king_planes.proofs.attack.attacked_by_men.Goals as goal

pub loop-m-init : goal.loop-m-init
loop-m-init c = (
  omega arith,
  λ s ls e. none_yet c.args.p.now s c.args.by (get_or c.empty-pairs.result s 0)
      (λ t lt. c.empty-pairs.ensures s t ls lt),
)

pub loop-m-preserved : goal.loop-m-preserved
loop-m-preserved c =
    let p = c.args.p.now in
    let by = c.args.by in
    let m = c.in-Some.m in
    let old = c.loop-m.pairs in
    let new = c.join_attacks.new.pairs in
    let next : IsNext c.side-men.result c.loop-m.n m = c.in-Some.ensures in
    let on = next.on_board in
    let same = c.number-n.ensures.number in (
      omega arith,
      λ s ls e. subst (λ (k : ℕ). IsOpen p s by (k + 1) (get_or new s 0)) (sym same)
          (one_more p s by c.side-men.result c.side-men.ensures c.loop-m.n m (get_or old s 0)
          (get_or new s 0) next (c.loop-m.invariant.1 s ls e)
          (λ t lt. c.join_attacks.ensures s t ls lt
          ∙ ap (λ x. has_pair old s t || ((x && attacks p m s) && not (is_between m t s))) e)),
    )

pub returns : goal.returns
returns c s t ls lt e =
    let end : HasNoneFrom c.side-men.result c.loop-m.n = c.in_default.ensures in
    all_open c.args.p.now s c.args.by c.side-men.result c.side-men.ensures c.loop-m.n
    (get_or c.loop-m.pairs s 0) c.loop-m.invariant.0 end (c.loop-m.invariant.1 s ls e) t lt
