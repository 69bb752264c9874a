use Rattle.std.proofs.Common.{◌∙◌, ◌≡◌, ap, false, nat_eq, sym}
use Rattle.std.proofs.lemmas.Bool.{eqb-true, not-false}
use Rattle.frz_squares.specs.SquareSets.{has_square}
use Rattle.frz_squares.proofs.Lemmas.{has-zero}
use Rattle.frz_plane_arms.specs.Binding.{may_go}
use Rattle.frz_plane_arms.proofs.freely.is_partly_bound.Goals as goal

pub returns : goal.returns
returns c off on a la =
    let none : c.free_origins.result ≡ 0 = eqb-true c.free_origins.result 0
    (not-false (nat_eq c.free_origins.result 0) off) in
    ap (may_go c.args.lines.now c.args.side false a) (sym c.at.ensures)
    ∙ sym (c.free_origins.ensures a la) ∙ ap (λ w. has_square w a) none ∙ has-zero a
