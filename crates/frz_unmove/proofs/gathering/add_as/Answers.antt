use Rattle.std.proofs.Common.{◌∙◌, ap}
use Rattle.std.proofs.lemmas.Bool.{both_ways}
use Rattle.frz_squares.specs.SquareSets.{has_square}
use Rattle.frz_squares.proofs.Lemmas.{has-zero}
use Rattle.frz_unmove.specs.Gathering.{ComesAs}
use Rattle.frz_unmove.proofs.Adding.{adds_none}
use Rattle.frz_unmove.proofs.gathering.add_as.Goals as goal

pub returns-then-origins-eq0 : goal.returns-then-origins-eq0
returns-then-origins-eq0 c =
    adds_none (ComesAs c.args.set.now c.args.q.now c.args.to c.args.promo) c.args.out.now 3456
    (λ x h. both_ways (has_square c.origins-origins.result x.mv.from)
    (ap (λ w. has_square w x.mv.from) c.if-origins-eq0.true ∙ has-zero x.mv.from)
    (c.origins-origins.ensures x h))
