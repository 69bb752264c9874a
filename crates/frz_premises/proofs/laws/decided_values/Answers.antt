use Rattle.std.proofs.Common.{◌≡◌, ap, ◌∙◌}
use Rattle.frz_sets.specs.Views.{ExitLine}
use Rattle.frz_premises.proofs.FirstLines.{decides_value}
use Rattle.frz_premises.proofs.laws.decided_values.Goals as goal

pub returns : goal.returns
returns c leans rules links q i line there decides =
    let w = decides_value leans rules links q i decides in
    let first = w.1 in
    let known = first.there in
    let same : w.0 ≡ line = cc in
    first.value ∙ ap (λ (l : ExitLine). l.value) same
