use Rattle.std.proofs.Common.{◌≡◌, ◌↔◌, ◌⊎◌, List, true, subst}
use Rattle.std.specs.Bool.{IsTrue}
use Rattle.frz_planes.specs.Planes.{has_pair}
use Rattle.frz_plane_arms.specs.Arms.{MakesMember}
use Rattle.frz_plane_arms.specs.Inside.{LeadsInside}
use Rattle.frz_plane_exits.specs.declared.exit_plane.ExitPlane.{ExitPlane}
use Rattle.frz_plane_chess.specs.Counted.{HasExitWhere, IsWorth}
use Rattle.frz_plane_chess.specs.Steps.{LeavesTo}
use Rattle.frz_plane_chess.proofs.WaysOut.{joined, ways_to_lead}
use Rattle.frz_plane_chess.proofs.moving.leading.Goals as goal

pub returns : goal.returns
returns c value p k sound board live lives inner exits a b la lb =
    let r = c.args.rules.now in
    let free = c.args.only_free in
    let into = c.args.into in
    let to = c.args.target.now in
    let list = c.args.row.now.exits.items in
    joined (has_pair c.leading_inside-pairs.result a b) (has_pair c.leaving.result a b)
    (has_pair c.union_with.new.self a b)
    (MakesMember r.groups p a b × LeadsInside r p free into to.planes.now a b)
    (HasExitWhere list free (λ v. IsTrue into ↔ IsWorth to.side to.exits v) a b)
    (MakesMember r.groups p a b × (LeadsInside r p free into to.planes.now a b
    ⊎ LeavesTo r value p free into to.side to.exits a b))
    (c.union_with.ensures a b la lb)
    (c.leading_inside-pairs.ensures p k sound board live lives inner a b la lb)
    (subst (λ (xs : List ExitPlane). (has_pair c.leaving.result a b ≡ true)
    ↔ HasExitWhere xs free (λ v. IsTrue into ↔ IsWorth to.side to.exits v) a b) c.deref.ensures.value
    (c.leaving.ensures a b la lb))
    (ways_to_lead r value p list exits free a b la lb into to.planes.now to.side to.exits)
