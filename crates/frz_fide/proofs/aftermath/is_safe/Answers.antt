use Rattle.std.proofs.Common.{◌∙◌, ap, sym, not}
use Rattle.frz_board.specs.Boards.{Board}
use Rattle.frz_board.specs.Attacks.{is_in_check}
use Rattle.frz_fide.specs.Legal.{cells_after, after_man}
use Rattle.frz_fide.proofs.aftermath.is_safe.Goals as goal

pub returns : goal.returns
returns c =
    ap not
    (c.is_in_check.ensures ∙ ap (λ (q : Board). is_in_check q c.turn.result) c.moved.ensures
    ∙ ap (λ t. is_in_check
    (record c.args.p.now { cells = cells_after c.args.p.now c.args.man c.args.m }) t)
    c.turn.ensures
    ∙ ap (λ o. is_in_check (after_man c.args.p.now o c.args.m) c.args.p.now.turn) (sym c.requires))
