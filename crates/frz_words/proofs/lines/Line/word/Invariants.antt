use Rattle.std.proofs.Common.{◌≡◌}
use Rattle.frz_words.specs.Words.{words, word_at}
use Rattle.frz_words.proofs.lines.Line.word.Given as goal

abbrev pub invariant-loop-left : goal.invariant-loop-left
invariant-loop-left l = word_at (words l.rest) l.left ≡ word_at (words l.self.text.now) l.k

abbrev pub decreases-loop-left : goal.decreases-loop-left
decreases-loop-left l = l.left
