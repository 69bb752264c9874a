use Rattle.std.proofs.Common.{◌∙◌, ap, Option, ℕ}
use Rattle.std.specs.Option.{unwrap_or}
use Rattle.frz_report.proofs.Entries.{found_times}
use Rattle.frz_report.proofs.census.Census.times.Goals as goal

pub returns : goal.returns
returns c = λ exits counts.
    c.unwrap_or.ensures ∙ ap (λ (o : Option ℕ). unwrap_or o 0)
    (c.copied.ensures ∙ c.get.ensures.value)
    ∙ found_times exits c.args.class.now c.args.self.now.classes.entries counts
