use Rattle.std.proofs.Common.{◌≡◌, Some, sym, subst}
use Rattle.std.specs.Prelude.{◌↔◌, IsNone}
use Rattle.frz_board.specs.Boards.{Board}
use Rattle.frz_fide.specs.Valid.{IsValid}
use Rattle.frz_index.specs.Members.{Broken, HasNumber}
use Rattle.frz_index.specs.Membership.{position_at}
use Rattle.frz_index.proofs.set.Set.at.Goals as goal

pub returns-in-None : goal.returns-in-None
returns-in-None c = c.in-None.ensures

pub returns-in-Some : goal.returns-in-Some
returns-in-Some c = record {
  exact =
      λ p. subst (λ (q : Board). (Some q ≡ Some p) ↔ HasNumber c.args.self.now c.args.i p)
      (sym c.position.ensures) (c.in-Some.ensures.exact p);
  broken =
      subst (λ (q : Board). IsNone (Some q) ↔ Broken c.args.self.now c.args.i)
      (sym c.position.ensures) c.in-Some.ensures.broken;
  function =
      subst (λ (q : Board). Some q ≡ position_at c.args.self.now c.args.i) (sym c.position.ensures)
      c.in-Some.ensures.function;
  valid = subst IsValid (sym c.position.ensures) c.in-Some.ensures.valid;
}
