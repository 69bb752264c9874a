use Rattle.std.proofs.Common.{◌<◌, sym, subst, ap, arith}
use Rattle.frz_board.specs.Moving.{Step}
use Rattle.frz_fide.specs.Valid.{IsValid}
use Rattle.frz_fide.proofs.StaysValid.{valid_after}
use Rattle.frz_fide.proofs.playing.after.Goals as goal

pub returns-clause-valid : goal.returns-clause-valid
returns-clause-valid c =
    let on : c.args.m.to < 64 = omega (arith, ap (λ (s : Step). s.to) c.m.view_is) in
    subst IsValid (sym c.boards_after.ensures)
    (valid_after c.args.p.now c.args.m c.requires.valid on c.requires.legal)
