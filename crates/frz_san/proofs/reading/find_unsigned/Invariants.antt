use Rattle.std.proofs.Common.{◌≡◌, ℕ, ◌<◌, get_or}
use Rattle.frz_board.specs.Moving.{Step}
use Rattle.frz_san.specs.Notation.{unsigned}
use Rattle.frz_san.proofs.reading.find_unsigned.Given as goal

-- no move so far has this text
abbrev pub invariant-loop-m : goal.invariant-loop-m
invariant-loop-m l =
    (k : ℕ) (d : Step) → k < l.m-index → unsigned l.p (get_or l.moves k d) ≡ l.text → ⊥
