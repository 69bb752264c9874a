use Rattle.std.proofs.Common.{List, [], ap, arith, length, subst, sym, ℕ, ◌<◌, ◌≡◌, ◌∙◌, ◌↔◌}
use Rattle.std.specs.Bool.{IsTrue}
use Rattle.std.specs.List.{slice_index_or}
use Rattle.std.proofs.lemmas.List.{get_or_default}
use Rattle.frz_arena.specs.declared.arm.Next.{Next}
use Rattle.frz_sets.specs.declared.exit.Value.{Value}
use Rattle.frz_kingless.specs.Boards.{AreLive}
use Rattle.frz_plane_arms.specs.Inner.{AreBelow}
use Rattle.frz_plane_arms.specs.MenArms.{AreAllLive}
use Rattle.frz_game.specs.Games.{graph_by}
use Rattle.frz_plane_game.specs.Targets.{LeadsInto}
use Rattle.frz_plane_chess.specs.Spots.{spots_of}
use Rattle.frz_plane_chess.proofs.RowNumbers.{leading_numbers, no_row, none_moving, some_row}
use Rattle.frz_plane_chess.proofs.plane_chess.PlaneChessPlaneGame.leading.Goals as goal

pub returns-in-None : goal.returns-in-None
returns-in-None g c =
    let game = c.args.self.now in
    let r = game.configurations.now.rules.now in
    let value = g.B.ExitBook.value_at game.book.now in
    let to = c.args.target.now in
    none_moving r value c.args.configuration c.empty.result c.requires.sound.sound
    (no_row game.set.now r value game.lives.items game.rows.items c.requires.sound
    c.args.configuration c.requires.inside c.in-None.ensures) c.empty.ensures c.args.only_free
    (λ (next : Next ℕ Value). IsTrue c.args.into
    ↔ LeadsInto (graph_by r value) (spots_of r.groups) to.planes.now to.side to.exits next)

pub leading-requires-clause-below : goal.leading-requires-clause-below
leading-requires-clause-below g c =
    let game = c.args.self.now in
    let r = game.configurations.now.rules.now in
    let value = g.B.ExitBook.value_at game.book.now in
    let row = c.in-Some.row.now in
    let is = some_row game.set.now r value game.lives.items game.rows.items c.requires.sound
    c.args.configuration c.requires.inside row c.in-Some.ensures in
    let many = c.requires.sound.many_lives in
    subst (λ (n : ℕ). AreBelow n row.moves) (sym (ap length c.deref.ensures.value ∙ many)) is.1.below

pub leading-requires-clause-many : goal.leading-requires-clause-many
leading-requires-clause-many g c =
    let many = c.requires.sound.many_lives in
    c.requires.many ∙ sym (ap length c.deref.ensures.value ∙ many)

pub returns-in-Some : goal.returns-in-Some
returns-in-Some g c =
    let game = c.args.self.now in
    let r = game.configurations.now.rules.now in
    let value = g.B.ExitBook.value_at game.book.now in
    let row = c.in-Some.row.now in
    let kept = c.requires.sound in
    let k = c.args.configuration in
    let to = c.args.target.now in
    let is = some_row game.set.now r value game.lives.items game.rows.items kept k
    c.requires.inside row c.in-Some.ensures in
    let many = kept.many_lives in
    let inside = c.requires.inside in
    let low : k < length game.lives.items = omega arith in
    let read : c.index-live.result.now ≡ slice_index_or game.lives.items k [] =
    c.index-live.ensures ∙ get_or_default game.lives.items k c.index-live.result.now [] low in
    leading_numbers r value k row is.0 kept.sound is.1 c.leading.result c.args.only_free c.args.into
    to.planes.now to.side to.exits
    (c.leading.ensures value is.0 k kept.sound is.1.board
    (subst (λ (xs : List ℕ). AreLive r.groups k xs) (sym read) (kept.are_live k inside))
    (subst (λ (xs : List (List ℕ)). AreAllLive r.groups xs) (sym c.deref.ensures.value)
    kept.are_live)
    is.1.inner is.1.exits)
