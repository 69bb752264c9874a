use Rattle.std.proofs.Common.{List, subst}
use Rattle.frz_sets.specs.Views.{GroupLine}
use Rattle.frz_index.specs.Stepping.{IsTurned}
use Rattle.frz_index.proofs.set.Set.turned.Goals as goal

pub returns : goal.returns
returns c =
    subst (λ (gs : List GroupLine). IsTurned gs c.args.i c.args.p.now c.args.target.now
    c.turned_in.result) c.self.view_is c.turned_in.ensures
