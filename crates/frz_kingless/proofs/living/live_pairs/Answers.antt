use Rattle.std.proofs.Common.{List, subst, sym}
use Rattle.frz_sets.specs.Views.{GroupLine}
use Rattle.frz_kingless.specs.Boards.{AreLive, HasNoPosition, IsBoardOf}
use Rattle.frz_kingless.proofs.LivePairs.{are_live, none_live}
use Rattle.frz_kingless.proofs.KnownPairs.{of_groups}
use Rattle.frz_kingless.proofs.living.live_pairs.Goals as goal

pub returns-in-None : goal.returns-in-None
returns-in-None c =
    let r = c.args.configurations.now.rules.now in
    let dead : HasNoPosition c.args.set.now c.args.configuration = c.in-None.ensures in
    let D : List GroupLine → Type 0 = λ gs. HasNoPosition gs c.args.configuration in
    let L : List GroupLine → Type 0 = λ gs. AreLive gs c.args.configuration c.empty.result in
    subst L (sym c.requires.set)
    (none_live r c.args.configuration c.empty.result c.requires.sound c.empty.ensures
    (subst D c.requires.set dead))

pub returns-in-Some : goal.returns-in-Some
returns-in-Some c =
    let r = c.args.configurations.now.rules.now in
    let p = c.in-Some.board in
    let board : IsBoardOf c.args.set.now c.args.configuration p = c.in-Some.ensures in
    let B : List GroupLine → Type 0 = λ gs. IsBoardOf gs c.args.configuration p in
    let L : List GroupLine → Type 0 = λ gs. AreLive gs c.args.configuration c.cut_with.new.self in
    subst L (sym c.requires.set)
    (are_live r c.requires.sound c.args.configuration p (subst B c.requires.set board)
    c.valid_pairs-pairs.result c.known_pairs.result c.cut_with.new.self c.valid_pairs-pairs.ensures
    (of_groups c.args.set.now r.groups c.known_pairs.result c.requires.set c.known_pairs.ensures)
    c.cut_with.ensures)
