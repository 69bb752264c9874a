use Rattle.std.proofs.Common.{List, subst}
use Rattle.frz_sets.specs.Views.{GroupLine}
use Rattle.frz_kingless.specs.Boards.{HasNoPosition, IsBoardOf}
use Rattle.frz_plane_chess.proofs.BoardNumbers.{live_read, none_live}
use Rattle.frz_plane_chess.proofs.building.row_of.Goals as goal

pub returns-then-is_empty : goal.returns-then-is_empty
returns-then-is_empty g c =
    let r = c.args.configurations.now.rules.now in
    let live = c.index-lives-configuration.result in
    none_live r c.args.configuration live c.requires.sound
    (live_read r c.args.lives.now c.args.configuration live c.requires.live c.requires.many
    c.requires.inside c.index-lives-configuration.is)
    (c.is_empty.ensures.0 c.if-is_empty.true)

pub returns-in-None : goal.returns-in-None
returns-in-None g c =
    subst (λ (gs : List GroupLine). HasNoPosition gs c.args.configuration) c.requires.set
    c.in-None.ensures

pub row_on-requires-clause-board : goal.row_on-requires-clause-board
row_on-requires-clause-board g c =
    subst (λ (gs : List GroupLine). IsBoardOf gs c.args.configuration c.in-Some.p) c.requires.set
    c.in-Some.ensures
