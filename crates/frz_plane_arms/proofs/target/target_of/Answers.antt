use Rattle.std.proofs.Common.{◌<◌, List, arith, refl, subst, sym}
use Rattle.frz_board.specs.Boards.{Board}
use Rattle.frz_fide.specs.Valid.{IsValid}
use Rattle.frz_sets.specs.Sets.{size_of}
use Rattle.frz_sets.specs.Views.{GroupLine}
use Rattle.frz_index.proofs.Lemmas.{Num_below}
use Rattle.frz_configurations.specs.Configurations.{configuration_count}
use Rattle.frz_configurations.proofs.Lemmas.{configuration_below}
use Rattle.frz_king_planes.specs.Kings.{with_kings}
use Rattle.frz_kingless.specs.Boards.{IsBoardOf, are_known}
use Rattle.frz_plane_arms.specs.Arms.{HasNoMember}
use Rattle.frz_plane_arms.specs.Crowning.{HasNoValid}
use Rattle.frz_plane_arms.proofs.Finding.{board_split, for_groups, none_made, none_there, placed, same_member, same_number}
use Rattle.frz_plane_arms.proofs.target.target_of.Goals as goal

pub number_on-requires : goal.number_on-requires
number_on-requires c =
    subst (λ (x : Board). IsValid x)
    (sym (placed c.args.q.now c.with_kings-position.result c.in-Some.a c.in-Some.b c.at.result
    c.at-in-Some.result c.with_kings-position.ensures c.at.ensures c.at-in-Some.ensures))
    c.in-Some.ensures.valid

pub split-requires-clause-inside : goal.split-requires-clause-inside
split-requires-clause-inside c =
    subst (λ (gs : List GroupLine). c.in-Some-number_on.number < size_of gs) c.requires.set
    (omega (
      arith,
      c.in-Some-number_on.ensures.number,
      Num_below c.args.set.now c.with_kings-position.result
          (c.in-Some-number_on.ensures.member.0 refl),
    ))

pub returns-in-None-clause-board : goal.returns-in-None-clause-board
returns-in-None-clause-board c =
    let r = c.args.configurations.now.rules.now in
    let q = c.args.q.now in
    subst (λ (gs : List GroupLine). HasNoMember gs q) (sym c.requires.set)
    (none_made r q c.requires.sound
    (subst (λ (gs : List GroupLine). HasNoValid (are_known gs) q) c.requires.set c.in-None.ensures))

pub returns-in-None-number_on-clause-board : goal.returns-in-None-number_on-clause-board
returns-in-None-number_on-clause-board c =
    let r = c.args.configurations.now.rules.now in
    let q = c.args.q.now in
    let a = c.in-Some.a in
    let b = c.in-Some.b in
    let here = placed q c.with_kings-position.result a b c.at.result c.at-in-Some.result
    c.with_kings-position.ensures c.at.ensures c.at-in-Some.ensures in
    subst (λ (gs : List GroupLine). HasNoMember gs q) (sym c.requires.set)
    (none_there r q c.requires.sound a b
    (for_groups c.args.set.now r.groups q a b c.requires.set c.in-Some.ensures)
    (λ m. let wrong = c.in-None-number_on.ensures.member.1
    (same_member r.groups c.args.set.now (with_kings q a b) c.with_kings-position.result
    (sym c.requires.set) (sym here) m) in
    absurd cc))

pub returns-in-Some-number_on-clause-board : goal.returns-in-Some-number_on-clause-board
returns-in-Some-number_on-clause-board c =
    let r = c.args.configurations.now.rules.now in
    let q = c.args.q.now in
    let a = c.in-Some.a in
    let b = c.in-Some.b in
    let here = placed q c.with_kings-position.result a b c.at.result c.at-in-Some.result
    c.with_kings-position.ensures c.at.ensures c.at-in-Some.ensures in
    let x = with_kings q a b in
    subst (λ (gs : List GroupLine). IsBoardOf gs c.split.result.configuration q)
    (sym c.requires.set)
    (board_split r q c.requires.sound a b
    (for_groups c.args.set.now r.groups q a b c.requires.set c.in-Some.ensures)
    c.in-Some-number_on.number c.split.result.configuration
    c.split.result.white c.split.result.black
    (same_member c.args.set.now r.groups c.with_kings-position.result x c.requires.set here
    (c.in-Some-number_on.ensures.member.0 refl))
    (same_number c.args.set.now r.groups c.with_kings-position.result x
    c.in-Some-number_on.number c.requires.set here c.in-Some-number_on.ensures.number)
    c.split.ensures)

pub returns-in-Some-number_on-clause-inside : goal.returns-in-Some-number_on-clause-inside
returns-in-Some-number_on-clause-inside c =
    let r = c.args.configurations.now.rules.now in
    subst (λ (gs : List GroupLine). c.split.result.configuration < configuration_count gs)
    (sym c.requires.set)
    (configuration_below r.groups c.in-Some-number_on.number c.split.result.configuration
    c.split.result.white c.split.result.black c.split.ensures)
