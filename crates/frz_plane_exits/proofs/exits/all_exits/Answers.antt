use Rattle.std.proofs.Common.{List, subst}
use Rattle.frz_plane_exits.specs.Adding.{Adds, ManLeaves}
use Rattle.frz_plane_exits.specs.declared.exit_plane.ExitPlane.{ExitPlane}
use Rattle.frz_plane_exits.proofs.AllExits.{are_exits}
use Rattle.frz_plane_exits.proofs.exits.all_exits.Goals as goal

pub returns : goal.returns
returns g c =
    let r = c.args.configurations.now.rules.now in
    let value = g.B.ExitBook.value_at c.args.book.now in
    let p = c.args.p.now in
    let men = c.add_men.new.exits.items in
    are_exits r value p c.movers.ensures men c.add_kings.new.exits.items
    (subst (λ (xs : List ExitPlane). Adds xs men (ManLeaves r value p)) c.new-exits.ensures.items
    c.in_ok-add_men.ensures) c.in_ok-add_kings.ensures
