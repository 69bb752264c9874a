use Rattle.std.proofs.Common.{◌≡◌}
use Rattle.frz_words.specs.Squares.{covers}
use Rattle.frz_words.proofs.Gathering.{bits_to}
use Rattle.frz_words.proofs.squares.Rectangle.squares.Given as goal

abbrev pub invariant-loop-s : goal.invariant-loop-s
invariant-loop-s l = l.set ≡ bits_to (covers l.self) l.s
