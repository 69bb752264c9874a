use Rattle.frz_planes.proofs.Shifts.{white_steps}
use Rattle.frz_planes.proofs.plane.Plane.step_white.Goals as goal

pub returns : goal.returns
returns c =
    white_steps _ _ _ _ _ _ _ c.empty-beside.ensures c.join_file_on.ensures
    c.join_file_back.ensures c.union_with.ensures c.join_rank_on.ensures c.join_rank_back.ensures
