use Rattle.std.proofs.Common.{◌≡◌, None, Option, Some, sym, subst}
use Rattle.std.specs.Prelude.{IfSome}
use Rattle.frz_board.specs.Boards.{Board}
use Rattle.frz_unmove.specs.Adding.{Adds}
use Rattle.frz_unmove.specs.declared.gathering.End.{End}
use Rattle.frz_unmove.specs.declared.quiet.Ready.{Ready}
use Rattle.frz_unmove.specs.Gathering.{ComesAt, HasOrigins, IsReadyEnd}
use Rattle.frz_unmove.specs.Quiet.{IsReady}
use Rattle.frz_unmove.proofs.gathering.add_at.Goals as goal

-- where a man is ready, the move took nothing and promoted nothing
plain : (q : Board) (e : End) (r : Ready) → IsReadyEnd q e → e.ready ≡ Some r →
    IsReady q e.to r × (e.taken ≡ 0) × (e.promo ≡ None)
plain q e r h is =
    subst (λ (o : Option Ready). IfSome o
    (λ r. IsReady q e.to r × (e.taken ≡ 0) × (e.promo ≡ None))) is h

pub add_steps-requires-clause-origins : goal.add_steps-requires-clause-origins
add_steps-requires-clause-origins c =
    let end = c.args.end.now in
    let told = plain c.args.q.now end c.in-Some.ready c.requires.ready c.in-Some.is in
    subst (λ o. HasOrigins c.args.set.now c.args.q.now end.to o c.args.origins) told.2
    c.requires.origins

pub returns-in-Some : goal.returns-in-Some
returns-in-Some c =
    let gs = c.args.set.now in
    let q = c.args.q.now in
    let end = c.args.end.now in
    let old = c.args.out.now in
    let new = c.add_steps.new.out in
    let target = c.args.target.now in
    let told = plain q end c.in-Some.ready c.requires.ready c.in-Some.is in
    subst (λ n. Adds (ComesAt gs q end.to end.promo n target) old new 64) (sym told.1)
    (subst (λ o. Adds (ComesAt gs q end.to o 0 target) old new 64) (sym told.2) c.add_steps.ensures)
