-- A man and the number that stands for it determine each other.
use Rattle.std.proofs.Common.{◌≡◌, ℕ, ◌<◌, refl, arith, lit<, Some, zero, suc, ◌+◌}
use Rattle.std.proofs.lemmas.Bool.Decides.{nat_tests}
use Rattle.frz_board.specs.declared.man.Colour.{Colour}
use Rattle.frz_board.specs.declared.man.Colour.TheVariants.{White, Black}
use Rattle.frz_board.specs.declared.man.Kind.{Kind}
use Rattle.frz_board.specs.declared.man.Kind.TheVariants.{King, Queen, Rook, Bishop, Knight, Pawn}
use Rattle.frz_board.specs.Men.{man_of_cell, cell_of_man, other_of, number_of_kind, kind_of_number}

pub cell_back : (x : ℕ) (c : Colour) (k : Kind)
    → man_of_cell x ≡ Some (record { colour = c; kind = k })
    → x ≡ cell_of_man (record { colour = c; kind = k })
cell_back x c k e = grind (arith, nat_tests)

pub cell_forth : (c : Colour) (k : Kind)
    → man_of_cell (cell_of_man (record { colour = c; kind = k })) ≡ Some
    (record { colour = c; kind = k })
cell_forth White King = refl
cell_forth White Queen = refl
cell_forth White Rook = refl
cell_forth White Bishop = refl
cell_forth White Knight = refl
cell_forth White Pawn = refl
cell_forth Black King = refl
cell_forth Black Queen = refl
cell_forth Black Rook = refl
cell_forth Black Bishop = refl
cell_forth Black Knight = refl
cell_forth Black Pawn = refl

-- the number of the kind of a number is the number
pub kind-number : (m : ℕ) → m < 6 → number_of_kind (kind_of_number (m + 1)) ≡ m + 1
kind-number zero h = refl
kind-number (suc zero) h = refl
kind-number (suc (suc zero)) h = refl
kind-number (suc (suc (suc zero))) h = refl
kind-number (suc (suc (suc (suc zero)))) h = refl
kind-number (suc (suc (suc (suc (suc zero))))) h = refl
kind-number (suc (suc (suc (suc (suc (suc m)))))) h = absurd (omega arith)

-- the opponent's opponent is the side itself
pub other_other : (c : Colour) → other_of (other_of c) ≡ c
other_other White = refl
other_other Black = refl

-- the opponent is another side
pub other_differs : (c : Colour) → other_of c ≡ c → ⊥
other_differs White e = cc
other_differs Black e = cc

-- a man's number is from 1 to 12
pub cell-some : (c : Colour) (k : Kind) → 0 < cell_of_man (record { colour = c; kind = k })
cell-some White King = lit< tt
cell-some White Queen = lit< tt
cell-some White Rook = lit< tt
cell-some White Bishop = lit< tt
cell-some White Knight = lit< tt
cell-some White Pawn = lit< tt
cell-some Black King = lit< tt
cell-some Black Queen = lit< tt
cell-some Black Rook = lit< tt
cell-some Black Bishop = lit< tt
cell-some Black Knight = lit< tt
cell-some Black Pawn = lit< tt

pub cell-small : (c : Colour) (k : Kind) → cell_of_man (record { colour = c; kind = k }) < 13
cell-small White King = lit< tt
cell-small White Queen = lit< tt
cell-small White Rook = lit< tt
cell-small White Bishop = lit< tt
cell-small White Knight = lit< tt
cell-small White Pawn = lit< tt
cell-small Black King = lit< tt
cell-small Black Queen = lit< tt
cell-small Black Rook = lit< tt
cell-small Black Bishop = lit< tt
cell-small Black Knight = lit< tt
cell-small Black Pawn = lit< tt
