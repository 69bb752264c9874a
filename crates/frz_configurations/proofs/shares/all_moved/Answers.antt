use Rattle.std.proofs.Common.{◌<◌, ◌∙◌, ℕ, arith, length, subst}
use Rattle.std.proofs.lemmas.List.{length-set}
use Rattle.frz_configurations.specs.Configurations.{IsSplit}
use Rattle.frz_configurations.specs.Joined.{IsKingSquare, of_colour}
use Rattle.frz_configurations.proofs.KeptSums.{set_more}
use Rattle.frz_configurations.proofs.shares.all_moved.Goals as goal

pub loop-square-preserved : goal.loop-square-preserved
loop-square-preserved c =
    let gs = c.args.configurations.now.rules.now.groups in
    let x = c.args.origin.now in
    let k = c.loop-square.square in
    let P : ℕ → ℕ → Type 0 = λ s i. IsKingSquare gs c.args.colour s →
    IsSplit gs i x.configuration (of_colour c.args.colour s x.white)
    (of_colour c.args.colour x.black s) in
    let here : P k c.moved.result =
    subst (λ s. P s c.moved.result) c.at.ensures c.moved.ensures in
    let low : k < length c.loop-square.numbers =
    omega (arith, c.loop-square.invariant.size, c.loop-square-test.true) in
    record {
      size = length-set c.loop-square.numbers k c.moved.result ∙ c.loop-square.invariant.size;
      moved = set_more P c.loop-square.numbers k c.moved.result low c.loop-square.invariant.moved
          here;
    }
