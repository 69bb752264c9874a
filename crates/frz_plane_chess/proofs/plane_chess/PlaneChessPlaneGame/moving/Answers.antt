use Rattle.std.specs.Prelude.{⊤}
use Rattle.frz_plane_chess.proofs.RowNumbers.{no_row, none_moving, numbers_moving, some_row}
use Rattle.frz_plane_chess.proofs.plane_chess.PlaneChessPlaneGame.moving.Goals as goal

pub returns-in-None : goal.returns-in-None
returns-in-None g c =
    let game = c.args.self.now in
    let r = game.configurations.now.rules.now in
    let value = g.B.ExitBook.value_at game.book.now in
    none_moving r value c.args.configuration c.empty.result c.requires.sound.sound
    (no_row game.set.now r value game.lives.items game.rows.items c.requires.sound
    c.args.configuration c.requires.inside c.in-None.ensures) c.empty.ensures c.args.only_free
    (λ _. ⊤)

pub returns-in-Some : goal.returns-in-Some
returns-in-Some g c =
    let game = c.args.self.now in
    let r = game.configurations.now.rules.now in
    let value = g.B.ExitBook.value_at game.book.now in
    let row = c.in-Some.row.now in
    let is = some_row game.set.now r value game.lives.items game.rows.items c.requires.sound
    c.args.configuration c.requires.inside row c.in-Some.ensures in
    numbers_moving r value c.args.configuration row is.0 c.requires.sound.sound is.1
    c.args.only_free c.moving_by.result c.moving_by.ensures
