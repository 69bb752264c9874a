use Rattle.std.proofs.Common.{ap, sym, ◌∙◌}
use Rattle.frz_index.specs.Kept.{is_known}
use Rattle.frz_index.proofs.RoomForMen.{room_unknown}
use Rattle.frz_index.proofs.set.Set.has_room_beside.Goals as goal

pub returns-else-may_stand : goal.returns-else-may_stand
returns-else-may_stand c =
    let gs = c.args.self.now in
    c.if-may_stand.false
    ∙ sym (room_unknown gs c.args.p.now c.args.man c.args.s
    (ap (λ cell. is_known gs cell c.args.s) (sym c.cell_of.ensures.cell) ∙ sym c.may_stand.ensures
    ∙ c.if-may_stand.false))
