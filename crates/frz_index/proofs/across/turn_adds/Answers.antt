use Rattle.std.proofs.Common.{◌≡◌, ◌*◌, ◌∙◌, ap, arith, length, map}
use Rattle.std.proofs.lemmas.Nat.{mul-le}
use Rattle.frz_combinations.specs.MixedRadix.{product}
use Rattle.frz_sets.specs.Sets.{radix_of, targets}
use Rattle.frz_index.proofs.Bounds.{targets_few}
use Rattle.frz_index.proofs.GroupSteps.{turn_le, whole_fits}
use Rattle.frz_index.specs.TurnStates.{turn_among}
use Rattle.frz_index.proofs.across.turn_adds.Goals as goal

pub turn_number-requires : goal.turn_number-requires
turn_number-requires c =
    let few = targets_few c.args.plan.now.groups.items in
    omega (arith, ap length c.deref.ensures.value, ap length c.requires.targets_are, few)

pub returns : goal.returns
returns c =
    let gs = c.args.plan.now.groups.items in
    let turn : c.from.result ≡ turn_among (targets gs) c.args.turn c.args.target =
    c.from.ensures ∙ c.turn_number.ensures
    ∙ ap (λ ts. turn_among ts c.args.turn c.args.target)
    (c.deref.ensures.value ∙ c.requires.targets_are) in
    let whole : c.from-2.result ≡ product (map radix_of gs) =
    c.from-2.ensures ∙ c.requires.whole_is in
    let few = targets_few gs in
    let low = turn_le (targets gs) c.args.turn c.args.target in
    let fits = whole_fits gs c.requires.numberable in
    record {
      adds =
          ap (λ x. x * c.from-2.result) turn
          ∙ ap (λ w. turn_among (targets gs) c.args.turn c.args.target * w) whole;
      small =
          let product = mul-le c.from.result c.from-2.result 66 134217728
          (omega (arith, turn, few, low)) (omega (arith, whole, fits)) in
          omega (arith, product);
    }
