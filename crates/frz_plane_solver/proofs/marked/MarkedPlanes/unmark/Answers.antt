use Rattle.std.proofs.Common.{false, slice_set}
use Rattle.frz_plane_solver.proofs.Marks.{mark_set, none_there, others_kept}
use Rattle.frz_plane_solver.proofs.marked.MarkedPlanes.unmark.Goals as goal

pub returns-clause-none : goal.returns-clause-none
returns-clause-none c =
    let marks = c.args.self.now.marks.items in
    let k = c.args.configuration in
    none_there (slice_set marks k false) c.args.self.now.planes.items k
    (mark_set marks k false c.requires)

pub returns-clause-others : goal.returns-clause-others
returns-clause-others c =
    others_kept c.args.self.now.marks.items c.args.self.now.planes.items c.args.configuration false
