use Rattle.std.proofs.Common.{subst}
use Rattle.frz_board.specs.Boards.{Board}
use Rattle.frz_king_planes.specs.Valid.{AreValid}
use Rattle.frz_kingless.specs.Boards.{IsBoardOf}
use Rattle.frz_plane_arms.specs.Arms.{HasNoMember}
use Rattle.frz_plane_exits.specs.declared.mover.Mover.TheVariants.{Man}
use Rattle.frz_plane_exits.proofs.LeavingPlanes.{none_leave}
use Rattle.frz_plane_exits.proofs.MenLeave.{man_goes, man_stays}
use Rattle.frz_plane_exits.proofs.leaving.man_leaves.Goals as goal

pub returns-then-has_configuration : goal.returns-then-has_configuration
returns-then-has_configuration c =
    let r = c.args.configurations.now.rules.now in
    let p = c.args.p.now in
    let m = c.args.m in
    let there = c.has_configuration.ensures.inside c.if-has_configuration.true in
    none_leave r p (Man m) c.empty.result c.empty.ensures
    (man_stays r p m c.requires.sound c.requires.can there.0
    (subst (λ (q : Board). IsBoardOf r.groups there.0 q) c.after-left.ensures there.1))

pub returns-else-has_configuration : goal.returns-else-has_configuration
returns-else-has_configuration c =
    let r = c.args.configurations.now.rules.now in
    let valid = c.valid_pairs.result in
    man_goes r c.args.p.now c.args.m c.requires.sound c.requires.can c.args.live.now
    valid c.legal_pairs.result c.requires.live c.legal_pairs.ensures.step
    (subst (λ (q : Board). AreValid q valid) c.after-left.ensures c.valid_pairs.ensures)
    (subst (λ (q : Board). HasNoMember r.groups q) c.after-left.ensures
    (c.has_configuration.ensures.outside c.if-has_configuration.false))
    c.legal_pairs.ensures.plane
