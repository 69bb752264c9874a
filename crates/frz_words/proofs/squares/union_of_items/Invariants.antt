use Rattle.std.proofs.Common.{◌≡◌, length}
use Rattle.frz_words.specs.Squares.{squares_of}
use Rattle.frz_words.proofs.Sets.{squares_with}
use Rattle.frz_words.proofs.squares.union_of_items.Given as goal

abbrev pub invariant-loop-item : goal.invariant-loop-item
invariant-loop-item l = squares_with l.set l.rest ≡ squares_of l.w

abbrev pub decreases-loop-item : goal.decreases-loop-item
decreases-loop-item l = length l.rest
