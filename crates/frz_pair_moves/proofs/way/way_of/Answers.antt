use Rattle.std.proofs.Common.{◌≡◌, Bool, true, false, cond, ◌||◌, refl, ap, ◌∙◌}
use Rattle.std.specs.Prelude.{◌==◌}
use Rattle.frz_board.specs.Lines.{is_between}
use Rattle.frz_board.specs.Moving.{Step}
use Rattle.frz_squares.specs.SquareSets.{has_square}
use Rattle.frz_squares.proofs.Lemmas.{has-set_of}
use Rattle.frz_pair_moves.specs.Ways.{is_on_way}
use Rattle.frz_pair_moves.proofs.way.way_of.Goals as goal

put_in : (x y : Bool) → cond x true y ≡ (x || y)
put_in true y = refl
put_in false y = refl

pub returns : goal.returns
returns c s l =
    let m = c.m.inside in
    c.replaced.ensures s l ∙ put_in (s == m.to) (has_square c.between.result s)
    ∙ ap (λ x. s == m.to || x)
    (ap (λ w. has_square w s) c.between.ensures ∙ has-set_of (λ k. is_between m.from k m.to) s l)
    ∙ ap (λ (n : Step). is_on_way n s) c.m.view_is
