use Rattle.std.proofs.Common.{[], false, sym, subst, ℕ}
use Rattle.frz_plane_arms.specs.Inner.{AreBelow}
use Rattle.frz_plane_game.specs.Targets.{LeadsToMarked}
use Rattle.frz_plane_chess.specs.Spots.{spots_of}
use Rattle.frz_plane_chess.proofs.Changes.{none_marked, none_moves}
use Rattle.frz_plane_chess.proofs.RowNumbers.{no_row, some_row}
use Rattle.frz_plane_chess.proofs.plane_chess.PlaneChessPlaneGame.touches.Goals as goal

pub returns-in-None : goal.returns-in-None
returns-in-None g c _ =
    let game = c.args.self.now in
    let r = game.configurations.now.rules.now in
    let value = g.B.ExitBook.value_at game.book.now in
    none_moves r value c.args.configuration c.requires.sound.sound
    (no_row game.set.now r value game.lives.items game.rows.items c.requires.sound
    c.args.configuration c.requires.inside c.in-None.ensures)
    (LeadsToMarked (spots_of r.groups) c.args.marks.now)

pub touches-requires : goal.touches-requires
touches-requires g c =
    let game = c.args.self.now in
    let r = game.configurations.now.rules.now in
    let value = g.B.ExitBook.value_at game.book.now in
    let row = c.in-Some.row.now in
    let is = some_row game.set.now r value game.lives.items game.rows.items c.requires.sound
    c.args.configuration c.requires.inside row c.in-Some.ensures in
    subst (λ (n : ℕ). AreBelow n row.moves) (sym c.requires.many) is.1.below

pub returns-in-Some : goal.returns-in-Some
returns-in-Some g c off =
    let game = c.args.self.now in
    let r = game.configurations.now.rules.now in
    let value = g.B.ExitBook.value_at game.book.now in
    let row = c.in-Some.row.now in
    let k = c.args.configuration in
    let kept = c.requires.sound in
    let is = some_row game.set.now r value game.lives.items game.rows.items kept k
    c.requires.inside row c.in-Some.ensures in
    none_marked r value k kept.sound is.0 is.1.board c.args.marks.now
    (λ a b into makes way. c.touches.ensures off r is.0 k a b false into [] kept.sound is.1.board
    is.1.inner makes way)
