use Rattle.std.specs.Prelude.{⊤, true}
use Rattle.frz_planes.specs.Planes.{has_pair}
use Rattle.frz_plane_arms.specs.Arms.{MakesMember}
use Rattle.frz_plane_arms.specs.Inside.{LeadsInside}
use Rattle.frz_plane_chess.specs.Counted.{CanMove, HasExitWhere}
use Rattle.frz_plane_chess.proofs.WaysOut.{joined, ways_to_move}
use Rattle.frz_plane_chess.proofs.moving.moving.Goals as goal

pub returns : goal.returns
returns c value p k sound board live lives inner exits a b la lb =
    let r = c.args.rules.now in
    let free = c.args.only_free in
    joined (has_pair c.leading_inside-pairs.result a b) (has_pair c.leaving_anywhere.result a b)
    (has_pair c.union_with.new.self a b)
    (MakesMember r.groups p a b × LeadsInside r p free true c.args.lives.now a b)
    (HasExitWhere c.args.exits.now free (λ _. ⊤) a b)
    (MakesMember r.groups p a b × CanMove r value p free a b)
    (c.union_with.ensures a b la lb)
    (c.leading_inside-pairs.ensures p k sound board live lives inner a b la lb)
    (c.leaving_anywhere.ensures a b la lb)
    (ways_to_move r value p c.args.exits.now exits free a b la lb c.args.lives.now sound lives)
