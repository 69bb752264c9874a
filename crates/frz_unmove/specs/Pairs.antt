-- The numbers from which a legal move leads to a number.
use Rattle.std.specs.Prelude.{ℕ, ◌≡◌, true, List, Some}
use Rattle.std.specs.List.{slice_get}
use Rattle.frz_board.specs.Boards.{Board}
use Rattle.frz_board.specs.Moving.{Step, IsStep}
use Rattle.frz_fide.specs.Legal.{is_legal, after}
use Rattle.frz_sets.specs.Views.{GroupLine}
use Rattle.frz_index.specs.Members.{HasNumber}
use Rattle.frz_unmove.specs.declared.preds.Pred.{Pred}

-- at the position of the number i the move m is legal, and it leads to the position of the number q
pub record LeadsTo (gs : List GroupLine) (i : ℕ) (m : Step) (q : ℕ) : Type 0 where
  pub earlier : Board
  pub number : HasNumber gs i earlier
  pub step : IsStep m
  pub legal : is_legal earlier m ≡ true
  pub arrives : HasNumber gs q (after earlier m)

-- no two of the items have one number
abbrev pub HaveDifferentNumbers : List Pred → Type 0
HaveDifferentNumbers items =
    (k l : ℕ) (x y : Pred) → slice_get items k ≡ Some x → slice_get items l ≡ Some y →
    x.number ≡ y.number → k ≡ l
