use Rattle.std.proofs.Common.{[], List, ap, slice_set, true, ℕ, ◌∙◌}
use Rattle.std.proofs.lemmas.List.{get_or-set_same}
use Rattle.frz_planes.specs.Planes.{has_pair}
use Rattle.frz_plane_solver.proofs.Marks.{mark_set, others_same, plane_there}
use Rattle.frz_plane_solver.proofs.marked.MarkedPlanes.put.Goals as goal

pub returns-clause-put : goal.returns-clause-put
returns-clause-put c a b la lb =
    let marks = c.args.self.now.marks.items in
    let planes = c.args.self.now.planes.items in
    let plane = c.args.plane.now in
    let k = c.args.configuration in
    ap (λ (p : List ℕ). has_pair p a b)
    (plane_there (slice_set marks k true) (slice_set planes k plane) k
    (mark_set marks k true c.requires.marks)
    ∙ get_or-set_same planes k plane [] c.requires.planes)

pub returns-clause-others : goal.returns-clause-others
returns-clause-others c =
    others_same c.args.self.now.marks.items c.args.self.now.planes.items c.args.configuration true
    c.args.plane.now
