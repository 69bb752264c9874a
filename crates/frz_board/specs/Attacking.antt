-- Attack as the laws of chess state it; the tests of the module Attacks compute it.
use Rattle.std.specs.Prelude.{ℕ, ◌≡◌, ◌≢◌, ◌+◌, ◌<◌, true, ◌⊎◌, max, slice_index}
use Rattle.frz_board.specs.declared.man.Colour.{Colour}
use Rattle.frz_board.specs.declared.man.Colour.TheVariants.{White, Black}
use Rattle.frz_board.specs.declared.man.Kind.{Kind}
use Rattle.frz_board.specs.declared.man.Kind.TheVariants.{King, Queen, Rook, Bishop, Knight, Pawn}
use Rattle.frz_board.specs.Squares.{files_apart, ranks_apart, rank_of}
use Rattle.frz_board.specs.Lines.{is_between}
use Rattle.frz_board.specs.Men.{cell_of_man}
use Rattle.frz_board.specs.Boards.{Board}

-- a man of this colour and kind stands on the square
abbrev pub Stands : Board → Colour → Kind → ℕ → Type 0
Stands p c k s = slice_index p.cells s ≡ cell_of_man (record { colour = c; kind = k })

-- each square strictly between is empty (FIDE 3.5)
abbrev pub IsClear : Board → ℕ → ℕ → Type 0
IsClear p a b = (s : ℕ) → s < 64 → is_between a s b ≡ true → slice_index p.cells s ≡ 0

-- different squares of one diagonal
abbrev pub IsDiagonal : ℕ → ℕ → Type 0
IsDiagonal a b = (a ≢ b) × (files_apart a b ≡ ranks_apart a b)

-- different squares of one file or one rank
abbrev pub IsFileOrRank : ℕ → ℕ → Type 0
IsFileOrRank a b = (a ≢ b) × ((files_apart a b ≡ 0) ⊎ (ranks_apart a b ≡ 0))

-- b is one rank forward of a, as the side sees it
abbrev pub IsForward : Colour → ℕ → ℕ → Type 0
IsForward White a b = rank_of b ≡ rank_of a + 1
IsForward Black a b = rank_of a ≡ rank_of b + 1

-- the man on a attacks b, whatever becomes of its own king (FIDE 3.1)
pub data Attack (p : Board) (a b : ℕ) : Type 0 where
  -- FIDE 3.2
  bishop : (c : Colour) → Stands p c Bishop a → IsDiagonal a b → IsClear p a b → Attack p a b
  -- FIDE 3.3
  rook : (c : Colour) → Stands p c Rook a → IsFileOrRank a b → IsClear p a b → Attack p a b
  -- FIDE 3.4
  queen : (c : Colour) → Stands p c Queen a → IsFileOrRank a b ⊎ IsDiagonal a b → IsClear p a b →
      Attack p a b
  -- FIDE 3.6
  knight : (c : Colour) → Stands p c Knight a →
      ((files_apart a b ≡ 1) × (ranks_apart a b ≡ 2))
      ⊎ ((files_apart a b ≡ 2) × (ranks_apart a b ≡ 1)) →
      Attack p a b
  -- FIDE 3.7
  pawn : (c : Colour) → Stands p c Pawn a → files_apart a b ≡ 1 → IsForward c a b → Attack p a b
  -- FIDE 3.8
  king : (c : Colour) → Stands p c King a → max (files_apart a b) (ranks_apart a b) ≡ 1 →
      Attack p a b
