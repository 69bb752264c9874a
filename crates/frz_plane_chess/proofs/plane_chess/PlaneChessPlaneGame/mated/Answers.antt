use Rattle.std.proofs.Common.{ap}
use Rattle.frz_plane_chess.specs.Rows.{turn_at, turn_of}
use Rattle.frz_plane_chess.proofs.RowNumbers.{mated_numbers, no_row, none_mated, some_row}
use Rattle.frz_plane_chess.proofs.plane_chess.PlaneChessPlaneGame.mated.Goals as goal

pub returns-in-None : goal.returns-in-None
returns-in-None g c =
    let game = c.args.self.now in
    let r = game.configurations.now.rules.now in
    let value = g.B.ExitBook.value_at game.book.now in
    let rows = game.rows.items in
    none_mated r value c.args.configuration c.empty.result c.requires.sound.sound
    (no_row game.set.now r value game.lives.items rows c.requires.sound c.args.configuration
    c.requires.inside c.in-None.ensures) c.empty.ensures (turn_at rows c.args.configuration)

pub returns-in-Some : goal.returns-in-Some
returns-in-Some g c =
    let game = c.args.self.now in
    let r = game.configurations.now.rules.now in
    let value = g.B.ExitBook.value_at game.book.now in
    let rows = game.rows.items in
    let row = c.in-Some.row.now in
    let is = some_row game.set.now r value game.lives.items rows c.requires.sound
    c.args.configuration c.requires.inside row c.in-Some.ensures in
    mated_numbers r value c.args.configuration row is.0 c.requires.sound.sound is.1
    (turn_at rows c.args.configuration) (ap turn_of c.in-Some.ensures)
