use Rattle.std.proofs.Common.{ap, count_ones, ◌∙◌}
use Rattle.frz_fide.proofs.Lemmas.{men_counted}
use Rattle.frz_exits.proofs.conditions.count.Goals as goal

pub returns : goal.returns
returns c =
    ap count_ones c.men.ensures
    ∙ men_counted c.args.q.now c.args.colour c.args.kind c.requires.fits.size
