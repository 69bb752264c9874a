-- What is kept of each man on each square: what he adds to a number there.
use Rattle.std.specs.Prelude.{ℕ, ◌≡◌, ◌/◌, ◌%◌, List, MatchOption, Option, Some, length}
use Rattle.std.specs.List.{slice_get}
use Rattle.frz_board.specs.Men.{man_of_cell}
use Rattle.frz_board.specs.declared.man.Man.{Man}
use Rattle.frz_sets.specs.Views.{GroupLine}
use Rattle.frz_index.specs.declared.plan.TheConstants.{CELLS}
use Rattle.frz_index.specs.declared.shares.Share.{Share}
use Rattle.frz_index.specs.Stepping.{IsShare}

-- what the man on the square adds to a number, and None exactly where no single group tells it
abbrev pub IsShareOf : List GroupLine → Man → ℕ → Option Share → Type 0
IsShareOf gs man s share =
    MatchOption share
    ((k adds : ℕ) → IsShare gs man s k adds → ⊥)
    (λ x. IsShare gs man s x.group x.adds)

-- at 64 * cell + square, what the cell's man adds to a number there
pub record AreShares (gs : List GroupLine) (shares : List (Option Share)) : Type 0 where
  pub size : length shares ≡ CELLS
  pub each : (i : ℕ) (man : Man) (share : Option Share) → slice_get shares i ≡ Some share →
      man_of_cell (i / 64) ≡ Some man → IsShareOf gs man (i % 64) share
