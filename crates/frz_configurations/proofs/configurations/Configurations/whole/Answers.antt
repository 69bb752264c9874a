use Rattle.std.proofs.Common.{arith}
use Rattle.frz_index.proofs.Lemmas.{numberable}
use Rattle.frz_configurations.proofs.Ready.{count_small}
use Rattle.frz_configurations.proofs.configurations.Configurations.whole.Goals as goal

pub overflow_cast-result : goal.overflow_cast-result
overflow_cast-result c =
    let r = c.args.self.now.rules.now in
    let few = count_small r.groups 0 0 c.parts.result (numberable r c.requires) c.parts.ensures in
    omega (arith, few.0)
