use Rattle.std.proofs.Common.{◌<◌, ◌∙◌, ap, arith, get_or, length, refl}
use Rattle.std.proofs.lemmas.Option.{slice_get_read}
use Rattle.frz_sets.specs.Views.{RuleLines}
use Rattle.frz_configurations.proofs.configurations.Configurations.other_radix.Goals as goal

pub has_kings-requires : goal.has_kings-requires
has_kings-requires c =
    let gs = c.args.self.now.rules.now.groups in
    let group = c.index.result.now in
    let same = ap (λ (r : RuleLines). r.groups) c.rules.view_is in
    let low : c.args.k < length gs = omega arith in
    c.args.self.now.kings c.args.k group
    (slice_get_read gs (length gs) c.args.k group refl low
    (c.index.ensures ∙ ap (λ xs. get_or xs c.args.k group) same))
