use Rattle.std.proofs.Common.{◌∙◌, ◌++◌, ◌∷◌, [], List, map, sym, ap, subst}
use Rattle.frz_board.specs.Boards.{Board}
use Rattle.frz_backs.specs.Loaded.{link_loaded}
use Rattle.frz_premises.specs.Trials.{AreTried}
use Rattle.frz_premises.proofs.Trying.{out_one}
use Rattle.frz_premises.proofs.walk.note_arm.Goals as goal

pub returns-in-Outside : goal.returns-in-Outside
returns-in-Outside c qs tried =
    let same = ap (λ (b : Board). b ∷ []) c.after.ensures.position
    ∙ sym (out_one c.args.p.now c.args.arm c.in-Outside.field-0 c.in-Outside.is) in
    subst (λ (bs : List Board). AreTried c.args.leans c.args.rules.now (map link_loaded c.args.backs.now)
    (qs ++ bs) c.note.new.trials) same (c.note.ensures qs tried)
