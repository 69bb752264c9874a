-- No value of a book has a number above 1,000.
use Rattle.std.proofs.Common.{◌≤◌, suc, zero, inl, inr, List, [], ◌∷◌, arith}
use Rattle.std.specs.Prelude.{All}
use Rattle.frz_board.specs.Boards.{Board}
use Rattle.frz_sets.specs.Views.{ExitLine}
use Rattle.frz_exits.specs.Values.{lag_of}
use Rattle.frz_exits.specs.Conditions.{conditions_hold}
use Rattle.frz_exits.specs.Books.{first_value}
use Rattle.std.proofs.lemmas.Bool.{cases_Bool}

pub first_value_small : (lines : List ExitLine) → All (λ line. lag_of line.value ≤ 1000) lines →
    (q : Board) → lag_of (first_value lines q) ≤ 1000
first_value_small [] small q = omega arith
first_value_small (line ∷ lines) small q =
    elim (cases_Bool (conditions_hold q line.conds)) [
      | inl t ↦ rw t (small zero line (omega arith))
      | inr f ↦ rw f (first_value_small lines (λ k d l. small (suc k) d (omega (arith, l))) q)
    ]
