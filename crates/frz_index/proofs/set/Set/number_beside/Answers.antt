use Rattle.std.proofs.Common.{◌≡◌, List, subst}
use Rattle.frz_sets.specs.Views.{GroupLine}
use Rattle.frz_index.specs.Membership.{number_of}
use Rattle.frz_index.proofs.Membership.{number_matches}
use Rattle.frz_index.proofs.set.Set.number_beside.Goals as goal

pub returns-clause-function : goal.returns-clause-function
returns-clause-function c =
    subst (λ (gs : List GroupLine). c.number_beside_in.result ≡ number_of gs c.args.q.now)
    c.self.view_is
    (number_matches c.self.inside.plan.groups.items c.args.q.now c.number_beside_in.result
    c.number_beside_in.ensures)
