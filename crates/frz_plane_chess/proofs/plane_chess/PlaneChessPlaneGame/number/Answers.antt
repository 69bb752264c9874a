use Rattle.std.proofs.Common.{◌<◌, subst, sym, ℕ}
use Rattle.frz_board.specs.declared.man.Colour.TheVariants.{White, Black}
use Rattle.frz_sets.specs.Sound.{IsSound}
use Rattle.frz_sets.specs.Views.{RuleLines}
use Rattle.frz_configurations.specs.Configurations.{IsSplit, configuration_count}
use Rattle.frz_configurations.specs.Joined.{IsKingSquare}
use Rattle.frz_configurations.proofs.Lemmas.{configuration_below, king_squares}
use Rattle.frz_plane_chess.proofs.Placing.{number_below, on_board, spot_is, split_at}
use Rattle.frz_plane_chess.proofs.plane_chess.PlaneChessPlaneGame.number.Goals as goal

pub at-requires : goal.at-requires
at-requires g c =
    let r = c.args.self.now.configurations.now.rules.now in
    let at = split_at r c.args.configuration c.args.white c.args.black c.requires.sound.sound
    c.requires.there in
    (on_board r at.0 c.args.configuration c.args.white c.args.black c.requires.sound.sound at.1).0

pub at-requires-2 : goal.at-requires-2
at-requires-2 g c =
    let r = c.args.self.now.configurations.now.rules.now in
    let at = split_at r c.args.configuration c.args.white c.args.black c.requires.sound.sound
    c.requires.there in
    (on_board r at.0 c.args.configuration c.args.white c.args.black c.requires.sound.sound at.1).1

pub number-requires-clause-sound : goal.number-requires-clause-sound
number-requires-clause-sound g c =
    subst (λ (r : RuleLines). IsSound r) (sym c.args.self.now.shared) c.requires.sound.sound

pub number-requires-clause-inside : goal.number-requires-clause-inside
number-requires-clause-inside g c =
    let r = c.args.self.now.configurations.now.rules.now in
    let k = c.args.configuration in
    let at = split_at r k c.args.white c.args.black c.requires.sound.sound c.requires.there in
    subst (λ (q : RuleLines). k < configuration_count q.groups) (sym c.args.self.now.shared)
    (configuration_below r.groups at.0 k c.args.white c.args.black at.1)

pub number-requires-clause-white : goal.number-requires-clause-white
number-requires-clause-white g c =
    let r = c.args.self.now.configurations.now.rules.now in
    let at = split_at r c.args.configuration c.args.white c.args.black c.requires.sound.sound
    c.requires.there in
    subst (λ (q : RuleLines). IsKingSquare q.groups White c.at.result) (sym c.args.self.now.shared)
    (subst (λ (s : ℕ). IsKingSquare r.groups White s) (sym c.at.ensures)
    (king_squares r at.0 c.args.configuration c.args.white c.args.black c.requires.sound.sound at.1).0)

pub number-requires-clause-black : goal.number-requires-clause-black
number-requires-clause-black g c =
    let r = c.args.self.now.configurations.now.rules.now in
    let at = split_at r c.args.configuration c.args.white c.args.black c.requires.sound.sound
    c.requires.there in
    subst (λ (q : RuleLines). IsKingSquare q.groups Black c.at-2.result)
    (sym c.args.self.now.shared)
    (subst (λ (s : ℕ). IsKingSquare r.groups Black s) (sym c.at-2.ensures)
    (king_squares r at.0 c.args.configuration c.args.white c.args.black c.requires.sound.sound at.1).1)

pub returns-clause-inside : goal.returns-clause-inside
returns-clause-inside g c =
    let x = c.args.self.now in
    let at = subst (λ (q : RuleLines). IsSplit q.groups c.number.result c.args.configuration
    c.at.result c.at-2.result) x.shared c.number.ensures in
    number_below x.configurations.now.rules.now.groups c.number.result c.args.configuration
    c.at.result c.at-2.result at

pub returns-clause-spot : goal.returns-clause-spot
returns-clause-spot g c =
    let x = c.args.self.now in
    let gs = x.configurations.now.rules.now.groups in
    let at = subst (λ (q : RuleLines). IsSplit q.groups c.number.result c.args.configuration
    c.at.result c.at-2.result) x.shared c.number.ensures in
    spot_is gs c.number.result c.args.configuration c.args.white c.args.black
    (subst (λ (b : ℕ). IsSplit gs c.number.result c.args.configuration c.args.white b)
    c.at-2.ensures
    (subst (λ (a : ℕ). IsSplit gs c.number.result c.args.configuration a c.at-2.result)
    c.at.ensures at))
