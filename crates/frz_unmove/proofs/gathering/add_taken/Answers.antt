use Rattle.std.proofs.lemmas.Bool.{both_ways}
use Rattle.frz_unmove.specs.Gathering.{ComesTaking}
use Rattle.frz_unmove.proofs.Coming.{may_be_taken}
use Rattle.frz_unmove.proofs.Adding.{adds_none}
use Rattle.frz_unmove.proofs.gathering.add_taken.Goals as goal

pub returns-else-may_take : goal.returns-else-may_take
returns-else-may_take c =
    let arrival = c.args.arrival.now in
    let gs = c.args.set.now in
    let q = c.args.q.now in
    adds_none (ComesTaking gs q arrival.to arrival.promo c.args.taken) c.args.out.now 576
    (λ x h. both_ways c.may_take.result c.if-may_take.false
    (may_be_taken gs q x arrival.to c.args.taken c.may_take.result h.0.0 h.1 c.requires.side
    c.may_take.ensures))
