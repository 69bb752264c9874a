use Rattle.std.proofs.Common.{◌↔◌, List, subst}
use Rattle.std.specs.Prelude.{IfSome, IsSome}
use Rattle.frz_sets.specs.Views.{GroupLine}
use Rattle.frz_index.specs.Members.{HasNumber}
use Rattle.frz_index.specs.Stepping.{IsCountedOnBoth, stepped}
use Rattle.frz_index.proofs.set.Set.number_after_step.Goals as goal

pub returns : goal.returns
returns c = record {
  told =
      subst (λ (gs : List GroupLine). IsSome c.number_after_step_in.result
      ↔ IsCountedOnBoth gs c.args.man c.args.from c.args.to) c.self.view_is
      c.number_after_step_in.ensures.told;
  number =
      subst (λ (gs : List GroupLine). IfSome c.number_after_step_in.result
      (λ n. HasNumber gs n (stepped c.args.p.now c.args.man c.args.from c.args.to
      c.args.target.now))) c.self.view_is c.number_after_step_in.ensures.number;
}
