use Rattle.std.proofs.Common.{◌≡◌, ◌∙◌, ap, arith, not, subst, true}
use Rattle.frz_board.specs.Moving.{Step, is_promotion}
use Rattle.frz_squares.proofs.Lemmas.{has-not}
use Rattle.frz_pair_moves.proofs.men.off_way.Goals as goal

pub returns-clause-off : goal.returns-clause-off
returns-clause-off c s l = has-not c.way_of.result s (omega arith) l ∙ ap not (c.way_of.ensures s l)

pub returns-clause-step : goal.returns-clause-step
returns-clause-step c = record {
  from = omega (arith, ap (λ (s : Step). s.from) c.m.view_is);
  to = omega (arith, ap (λ (s : Step). s.to) c.m.view_is);
  promo = subst (λ (s : Step). is_promotion s.promo ≡ true) c.m.view_is c.m.invariant;
}
