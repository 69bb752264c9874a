use Rattle.std.proofs.Common.{◌≡◌, ◌+◌, ◌∙◌, ap, arith, slice_index, slice_set, subst, sym}
use Rattle.frz_fide.specs.Words.{IsNext}
use Rattle.frz_board.specs.Boards.{Board}
use Rattle.frz_index.proofs.MovedMen.{IsMore, MovedBelow, more, moved_end, moved_start, moved_step}
use Rattle.frz_index.proofs.beside.moved_men.Goals as goal

pub loop-s-init : goal.loop-s-init
loop-s-init c = record {
  low = omega arith;
  moved = moved_start c.args.p.now c.args.q.now c.args.squares;
}

pub loop-s-preserved : goal.loop-s-preserved
loop-s-preserved c =
    let p = c.args.p.now in
    let q = c.args.q.now in
    let s = c.in-Some.s in
    let next : IsNext c.args.squares c.loop-s.n s = c.in-Some.ensures in
    let on = next.on_board in
    let number = c.number-n.ensures.number in
    let h = c.loop-s.invariant.moved in
    let us = c.loop-s.moved in
    let vs = slice_set us c.cell-before.result c.replaced.result in
    let ws = slice_set vs c.cell-after.result c.replaced-in-Some.result in
    let before : c.cell-before.result ≡ slice_index p.cells s = c.cell-before.ensures.cell
    ∙ ap (λ (b : Board). slice_index b.cells s) c.as_position.ensures in
    let after : c.cell-after.result ≡ slice_index q.cells s = c.cell-after.ensures.cell
    ∙ ap (λ (b : Board). slice_index b.cells s) c.as_position-in-Some.ensures in
    let low = c.cell-before.ensures.fits in
    let high = c.cell-after.ensures.fits in
    let one : IsMore us vs c.cell-before.result s =
    more us c.cell-before.result s c.replaced.result h.size (omega (arith, low)) on
    c.replaced.ensures in
    let two : IsMore vs ws c.cell-after.result s =
    more vs c.cell-after.result s c.replaced-in-Some.result one.size (omega (arith, high)) on
    c.replaced-in-Some.ensures in
    record {
      low = omega (arith, number, on);
      moved = subst (λ m. MovedBelow p q c.args.squares (m + 1) ws) (sym number)
          (moved_step p q c.args.squares c.loop-s.n s us vs ws h next
          (subst (λ k. IsMore us vs k s) before one) (subst (λ k. IsMore vs ws k s) after two));
    }

pub returns : goal.returns
returns c =
    moved_end c.args.p.now c.args.q.now c.args.squares c.loop-s.n c.loop-s.moved c.requires
    c.loop-s.invariant.moved c.in_default.ensures
