use Rattle.std.proofs.Common.{sym, ◌∙◌, ap}
use Rattle.frz_board.specs.Moving.{Step}
use Rattle.frz_worked.specs.Ten.{is_free}
use Rattle.frz_worked.proofs.TenNumbers.{free_is}
use Rattle.frz_worked.proofs.ten.TenGraph.free.Goals as goal

pub returns : goal.returns
returns g c a there move =
    c.is_free.ensures ∙ (ap (λ (m : Step). is_free c.args.i m.to) (sym move)
    ∙ free_is c.args.i a there)
