use Rattle.std.proofs.Common.{◌≡◌, ◌<◌, ◌∙◌, sym, subst, ap, true, arith}
use Rattle.frz_board.specs.Boards.{Board}
use Rattle.frz_board.specs.Moving.{Step}
use Rattle.frz_fide.specs.Legal.{is_legal, after}
use Rattle.frz_fide.specs.Valid.{IsValid}
use Rattle.frz_fide.proofs.StaysValid.{valid_after}
use Rattle.frz_fide.proofs.playing.play.Goals as goal

pub returns-then-is_legal_move-clause-valid : goal.returns-then-is_legal_move-clause-valid
returns-then-is_legal_move-clause-valid c =
    let legal : is_legal c.args.p.now c.args.m ≡ true = ap (λ (p : Board). is_legal p c.args.m)
    (sym c.of-boards.ensures) ∙ sym c.is_legal_move.ensures ∙ c.if-is_legal_move.true in
    let on : c.args.m.to < 64 = omega (arith, ap (λ (s : Step). s.to) c.m.view_is) in
    subst IsValid (ap (λ (p : Board). after p c.args.m) (sym c.of-boards.ensures)
    ∙ sym c.boards_after.ensures ∙ sym c.position.ensures)
    (valid_after c.args.p.now c.args.m c.requires on legal)
