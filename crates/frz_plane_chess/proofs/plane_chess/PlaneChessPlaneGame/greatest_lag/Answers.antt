use Rattle.std.proofs.Common.{List, Option, length, subst, ℕ}
use Rattle.frz_plane_chess.specs.Rows.{HaveLagsWithin}
use Rattle.frz_plane_chess.specs.declared.row.Row.{Row}
use Rattle.frz_plane_chess.proofs.Lags.{lags_are}
use Rattle.frz_plane_chess.proofs.plane_chess.PlaneChessPlaneGame.greatest_lag.Goals as goal

pub returns-clause-within : goal.returns-clause-within
returns-clause-within g c =
    let game = c.args.self.now in
    let r = game.configurations.now.rules.now in
    let kept = c.requires in
    let most = c.greatest_lag_of.result in
    lags_are r (g.B.ExitBook.value_at game.book.now) game.rows.items c.args.side most kept.sound
    kept.finite kept.are_rows
    (subst (λ (n : ℕ). HaveLagsWithin game.rows.items c.args.side n most) kept.many_rows
    (subst (λ (xs : List (Option Row)). HaveLagsWithin xs c.args.side (length xs) most)
    c.deref.ensures.value c.greatest_lag_of.ensures.within))
