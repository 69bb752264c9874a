-- Sides with too few men to mate.
use Rattle.std.specs.Prelude.{ℕ, ◌≡◌, ◌≢◌, ◌<◌, ◌⊎◌}
use Rattle.frz_board.specs.declared.man.Colour.{Colour}
use Rattle.frz_board.specs.declared.man.Kind.{Kind}
use Rattle.frz_board.specs.declared.man.Kind.TheVariants.{King, Bishop, Knight}
use Rattle.frz_board.specs.Boards.{Board}
use Rattle.frz_board.specs.Attacking.{Stands}

-- each man of the side is its king
abbrev pub IsBare : Board → Colour → Type 0
IsBare p c = (s : ℕ) (k : Kind) → s < 64 → Stands p c k s → k ≡ King

-- besides its king the side has one man at most, a bishop or a knight
pub record HasOneMinor (p : Board) (c : Colour) : Type 0 where
  pub minor : (s : ℕ) (k : Kind) → s < 64 → Stands p c k s → k ≢ King →
      (k ≡ Bishop) ⊎ (k ≡ Knight)
  pub one : (s t : ℕ) (j k : Kind) → s < 64 → t < 64 → Stands p c j s → Stands p c k t → j ≢ King
      → k ≢ King → s ≡ t
