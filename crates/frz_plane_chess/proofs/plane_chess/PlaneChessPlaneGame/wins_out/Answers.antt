use Rattle.std.proofs.Common.{List, subst}
use Rattle.frz_plane_exits.specs.declared.exit_plane.ExitPlane.{ExitPlane}
use Rattle.frz_game.specs.Games.{graph_by}
use Rattle.frz_plane_game.specs.Targets.{WinsOut}
use Rattle.frz_plane_chess.specs.Counted.{HasNoWinWith}
use Rattle.frz_plane_chess.proofs.Changes.{none_moves, none_out}
use Rattle.frz_plane_chess.proofs.RowNumbers.{no_row, some_row}
use Rattle.frz_plane_chess.proofs.plane_chess.PlaneChessPlaneGame.wins_out.Goals as goal

pub returns-in-None : goal.returns-in-None
returns-in-None g c _ =
    let game = c.args.self.now in
    let r = game.configurations.now.rules.now in
    let value = g.B.ExitBook.value_at game.book.now in
    none_moves r value c.args.configuration c.requires.sound.sound
    (no_row game.set.now r value game.lives.items game.rows.items c.requires.sound
    c.args.configuration c.requires.inside c.in-None.ensures)
    (WinsOut (graph_by r value) c.args.side c.args.lag)

pub returns-in-Some : goal.returns-in-Some
returns-in-Some g c off =
    let game = c.args.self.now in
    let r = game.configurations.now.rules.now in
    let value = g.B.ExitBook.value_at game.book.now in
    let row = c.in-Some.row.now in
    let k = c.args.configuration in
    let kept = c.requires.sound in
    let is = some_row game.set.now r value game.lives.items game.rows.items kept k
    c.requires.inside row c.in-Some.ensures in
    none_out r value k kept.sound is.0 is.1.board row.exits.items is.1.exits c.args.side c.args.lag
    (subst (λ (xs : List ExitPlane). HasNoWinWith xs c.args.side c.args.lag) c.deref.ensures.value
    (c.wins_out.ensures off))
