use Rattle.std.proofs.Common.{List, [], arith, length, subst, sym, ℕ, ◌<◌, ◌≡◌, ◌∙◌}
use Rattle.std.specs.List.{slice_index_or}
use Rattle.std.proofs.lemmas.List.{get_or_default}
use Rattle.frz_kingless.specs.Boards.{AreLive}
use Rattle.frz_plane_chess.proofs.LiveNumbers.{live_numbers}
use Rattle.frz_plane_chess.proofs.plane_chess.PlaneChessPlaneGame.live.Goals as goal

pub returns : goal.returns
returns g c =
    let game = c.args.self.now in
    let r = game.configurations.now.rules.now in
    let kept = c.requires.sound in
    let many = kept.many_lives in
    let inside = c.requires.inside in
    let k = c.args.configuration in
    let low : k < length game.lives.items = omega arith in
    let read : c.index.result.now ≡ slice_index_or game.lives.items k [] =
    c.index.ensures ∙ get_or_default game.lives.items k c.index.result.now [] low in
    live_numbers r (g.B.ExitBook.value_at game.book.now) k c.index.result.now kept.sound
    (subst (λ (xs : List ℕ). AreLive r.groups k xs) (sym read) (kept.are_live k inside))
