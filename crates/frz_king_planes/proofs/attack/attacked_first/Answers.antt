use Rattle.std.proofs.Common.{◌||◌, ◌∙◌, ap}
use Rattle.frz_planes.specs.Planes.{has_pair}
use Rattle.frz_king_planes.specs.Attacked.{is_attacked_past}
use Rattle.frz_king_planes.proofs.attack.attacked_first.Goals as goal

pub returns : goal.returns
returns c s t ls lt e =
    c.union_with.ensures s t ls lt
    ∙ ap (λ x. x || has_pair c.adjoining.result s t) (c.attacked_by_men-pairs.ensures s t ls lt e)
    ∙ ap (λ x. is_attacked_past c.args.p.now s c.args.by t || x) (c.adjoining.ensures s t ls lt)
