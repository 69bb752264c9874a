use Rattle.std.proofs.Common.{List, subst, ◌≡◌}
use Rattle.frz_plane_exits.specs.declared.exit_plane.ExitPlane.{ExitPlane}
use Rattle.frz_plane_chess.specs.Counted.{HasLagsWithin}
use Rattle.frz_plane_chess.specs.declared.row.Row.{Row}
use Rattle.frz_plane_chess.proofs.winning.row_lag.Goals as goal

pub returns-in-Some-clause-within : goal.returns-in-Some-clause-within
returns-in-Some-clause-within c x e =
    let is = c.in-Some.is in
    let same : c.in-Some.row ≡ x = cc in
    let most = c.greatest_winning_lag.result in
    subst (λ (y : Row). HasLagsWithin y.exits.items c.args.side most) same
    (subst (λ (xs : List ExitPlane). HasLagsWithin xs c.args.side most) c.deref.ensures.value
    c.greatest_winning_lag.ensures.within)
