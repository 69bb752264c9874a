use Rattle.std.proofs.Common.{◌+◌, ◌*◌, ap, arith, subst, sym, ℕ}
use Rattle.frz_configurations.specs.Configurations.{IsSplit}
use Rattle.frz_configurations.proofs.Ending.{ended}
use Rattle.frz_configurations.proofs.configurations.Configurations.split.Goals as goal

pub overflow_mul-result : goal.overflow_mul-result
overflow_mul-result c =
    let x = c.parts-parts.result in
    let end = (ended c.args.self.now.rules.now c.args.number x c.requires.sound c.requires.inside
    c.parts-parts.ensures).fits in
    omega (arith, ap (λ (n : ℕ). n * x.count) c.from.ensures)

pub overflow_add-result : goal.overflow_add-result
overflow_add-result c =
    let x = c.parts-parts.result in
    let end = (ended c.args.self.now.rules.now c.args.number x c.requires.sound c.requires.inside
    c.parts-parts.ensures).fits in
    omega (arith, ap (λ (n : ℕ). n * x.count) c.from.ensures)

pub overflow_cast-result : goal.overflow_cast-result
overflow_cast-result c =
    let x = c.parts-parts.result in
    let end = (ended c.args.self.now.rules.now c.args.number x c.requires.sound c.requires.inside
    c.parts-parts.ensures).fits in
    omega (arith, ap (λ (n : ℕ). n * x.count) c.from.ensures)

pub returns : goal.returns
returns c =
    let x = c.parts-parts.result in
    subst (λ (n : ℕ). IsSplit c.args.self.now.rules.now.groups c.args.number
    (x.configuration + n * x.count) x.white x.black) (sym c.from.ensures)
    (ended c.args.self.now.rules.now c.args.number x c.requires.sound c.requires.inside
    c.parts-parts.ensures).split
