use Rattle.std.proofs.Common.{◌≡◌, ◌+◌, ◌≤◌, length}
use Rattle.frz_words.specs.Words.{words}
use Rattle.frz_words.proofs.words.count_words.Given as goal

abbrev pub invariant-loop-after : goal.invariant-loop-after
invariant-loop-after l =
    record {
      same : l.count + length (words l.rest) ≡ length (words l.line);
      small : l.count + length l.rest ≤ length l.line;
    }

abbrev pub decreases-loop-after : goal.decreases-loop-after
decreases-loop-after l = length l.rest
