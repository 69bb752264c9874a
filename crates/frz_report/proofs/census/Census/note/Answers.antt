use Rattle.std.proofs.Common.{◌≡◌, ◌∙◌, ◌+◌, ap, length, ◌≤◌, ℕ, arith}
use Rattle.frz_report.specs.Census.{times}
use Rattle.frz_report.specs.Walks.{lettered}
use Rattle.frz_report.proofs.Entries.{counts_more, few_times}
use Rattle.frz_report.proofs.census.Census.note.Goals as goal

pub overflow_add-before : goal.overflow_add-before
overflow_add-before c =
    let k = c.requires in
    let is : c.times-before.result ≡ times k.0 c.args.class.bytes = c.times-before.ensures k.0 k.1 in
    let few : times k.0 c.args.class.bytes ≤ length k.0 = few_times k.0 c.args.class.bytes in
    let small = k.3 in
    omega arith

pub returns-in-Ok-clause-counts : goal.returns-in-Ok-clause-counts
returns-in-Ok-clause-counts c = λ exits counts.
    ap lettered c.in-Ok.ensures.entries
    ∙ counts_more exits c.args.class (c.times-before.result + 1) c.args.self.now.classes.entries
    counts (ap (λ (n : ℕ). n + 1) (c.times-before.ensures exits counts))
