use Rattle.std.proofs.Common.{◌∙◌, subst}
use Rattle.std.proofs.lemmas.Option.{same_Some}
use Rattle.frz_board.specs.declared.man.Man.{Man}
use Rattle.frz_index.specs.Shares.{IsShareOf}
use Rattle.frz_index.proofs.shares.share_of_cell.Goals as goal

pub returns-in-Some : goal.returns-in-Some
returns-in-Some c man e =
    subst (λ (m : Man). IsShareOf c.args.groups.now m c.args.square c.share_of.result)
    (same_Some c.in-Some.man man (c.in-Some.ensures.man ∙ e))
    (subst (λ s. IsShareOf c.args.groups.now c.in-Some.man s c.share_of.result) c.at.ensures
    c.share_of.ensures)
