use Rattle.std.proofs.Common.{◌≡◌, ◌+◌, ◌∙◌, ap, arith, length}
use Rattle.frz_sets.specs.Sets.{targets}
use Rattle.frz_sets.specs.Views.{RuleLines}
use Rattle.frz_configurations.proofs.Ending.{counted_by}
use Rattle.frz_configurations.proofs.configurations.Configurations.count.Goals as goal

pub overflow_mul-result : goal.overflow_mul-result
overflow_mul-result c =
    let rules = c.args.self.now.rules.now in
    let same = c.deref.ensures.value ∙ ap (λ (r : RuleLines). r.groups) c.rules.view_is in
    let turns : c.target_count.result + 2 ≡ length (targets rules.groups) + 2 =
    ap (λ n. n + 2) (c.target_count.ensures.count ∙ ap (λ gs. length (targets gs)) same) in
    let told = counted_by rules (c.target_count.result + 2) 0 c.parts.result c.requires turns
    c.parts.ensures in
    omega (arith, told.1)

pub overflow_cast-result : goal.overflow_cast-result
overflow_cast-result c =
    let rules = c.args.self.now.rules.now in
    let same = c.deref.ensures.value ∙ ap (λ (r : RuleLines). r.groups) c.rules.view_is in
    let turns : c.target_count.result + 2 ≡ length (targets rules.groups) + 2 =
    ap (λ n. n + 2) (c.target_count.ensures.count ∙ ap (λ gs. length (targets gs)) same) in
    let told = counted_by rules (c.target_count.result + 2) 0 c.parts.result c.requires turns
    c.parts.ensures in
    omega (arith, told.1)

pub returns : goal.returns
returns c =
    let rules = c.args.self.now.rules.now in
    let same = c.deref.ensures.value ∙ ap (λ (r : RuleLines). r.groups) c.rules.view_is in
    let turns : c.target_count.result + 2 ≡ length (targets rules.groups) + 2 =
    ap (λ n. n + 2) (c.target_count.ensures.count ∙ ap (λ gs. length (targets gs)) same) in
    let told = counted_by rules (c.target_count.result + 2) 0 c.parts.result c.requires turns
    c.parts.ensures in
    told.0
