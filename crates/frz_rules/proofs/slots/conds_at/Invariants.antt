use Rattle.std.proofs.Common.{◌≡◌, length}
use Rattle.frz_words.specs.Words.{words}
use Rattle.frz_rules.specs.Conditions.{cond_of}
use Rattle.frz_rules.specs.Reading.{each_of}
use Rattle.frz_rules.proofs.Many.{with_values}
use Rattle.frz_rules.proofs.slots.conds_at.Given as goal

abbrev pub invariant-loop-w : goal.invariant-loop-w
invariant-loop-w l =
    with_values l.found.items (each_of cond_of (words l.rest)) ≡ each_of cond_of (words l.line)

abbrev pub decreases-loop-w : goal.decreases-loop-w
decreases-loop-w l = length l.rest
