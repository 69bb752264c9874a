use Rattle.std.proofs.Common.{◌+◌, ◌*◌, ap, arith, subst, sym, ℕ}
use Rattle.frz_configurations.specs.Configurations.{IsSplit}
use Rattle.frz_configurations.proofs.Ending.{joined_whole}
use Rattle.frz_configurations.proofs.configurations.Configurations.number.Goals as goal

pub overflow_mul-result : goal.overflow_mul-result
overflow_mul-result c =
    let x = c.joined-joined.result in
    let fits = (joined_whole c.args.self.now.rules.now c.args.configuration c.args.white c.args.black
    x c.requires.sound c.requires.inside c.joined-joined.ensures).fits in
    omega (arith, ap (λ (n : ℕ). n * x.count) c.from.ensures)

pub overflow_add-result : goal.overflow_add-result
overflow_add-result c =
    let x = c.joined-joined.result in
    let fits = (joined_whole c.args.self.now.rules.now c.args.configuration c.args.white c.args.black
    x c.requires.sound c.requires.inside c.joined-joined.ensures).fits in
    omega (arith, ap (λ (n : ℕ). n * x.count) c.from.ensures)

pub overflow_cast-result : goal.overflow_cast-result
overflow_cast-result c =
    let x = c.joined-joined.result in
    let fits = (joined_whole c.args.self.now.rules.now c.args.configuration c.args.white c.args.black
    x c.requires.sound c.requires.inside c.joined-joined.ensures).fits in
    omega (arith, ap (λ (n : ℕ). n * x.count) c.from.ensures)

pub returns : goal.returns
returns c =
    let x = c.joined-joined.result in
    subst (λ (n : ℕ). IsSplit c.args.self.now.rules.now.groups (x.number + n * x.count)
    c.args.configuration c.args.white c.args.black) (sym c.from.ensures)
    (joined_whole c.args.self.now.rules.now c.args.configuration c.args.white c.args.black x
    c.requires.sound c.requires.inside c.joined-joined.ensures).split
