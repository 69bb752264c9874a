-- Which men are kings, before a move and after it.
use Rattle.std.proofs.Common.{◌≡◌, ℕ, refl, true, false, ◌&&◌, Option, None, Some}
use Rattle.std.specs.Prelude.{◌==◌}
use Rattle.frz_board.specs.Men.{cell_of_man, same_colour}
use Rattle.frz_fide.specs.Legal.{promotes, arrives}
use Rattle.frz_fide.specs.Exposing.{is_king}
use Rattle.frz_board.specs.declared.man.Colour.{Colour}
use Rattle.frz_board.specs.declared.man.Colour.TheVariants.{White, Black}
use Rattle.frz_board.specs.declared.man.Kind.{Kind}
use Rattle.frz_board.specs.declared.man.Kind.TheVariants.{King, Queen, Rook, Bishop, Knight, Pawn}

-- which cells hold a king, and which a pawn
pub king_test : (c : Colour) (k : Kind) (d : Colour) →
    (cell_of_man (record { colour = c; kind = k }) == cell_of_man
    (record { colour = d; kind = King })) ≡ (is_king k && same_colour c d)
king_test White King White = refl
king_test White King Black = refl
king_test White Queen White = refl
king_test White Queen Black = refl
king_test White Rook White = refl
king_test White Rook Black = refl
king_test White Bishop White = refl
king_test White Bishop Black = refl
king_test White Knight White = refl
king_test White Knight Black = refl
king_test White Pawn White = refl
king_test White Pawn Black = refl
king_test Black King White = refl
king_test Black King Black = refl
king_test Black Queen White = refl
king_test Black Queen Black = refl
king_test Black Rook White = refl
king_test Black Rook Black = refl
king_test Black Bishop White = refl
king_test Black Bishop Black = refl
king_test Black Knight White = refl
king_test Black Knight Black = refl
king_test Black Pawn White = refl
king_test Black Pawn Black = refl

-- a king moves as a king, and no other man becomes one
pub same_king : (c : Colour) (k : Kind) (b : ℕ) (promo : Option Kind) (d : Colour) →
    promotes c k b promo ≡ true →
    is_king (arrives (record { colour = d; kind = k }) promo).kind ≡ is_king k
same_king c k b None d h = refl
same_king c King b (Some j) d h = cc
same_king c Queen b (Some j) d h = cc
same_king c Rook b (Some j) d h = cc
same_king c Bishop b (Some j) d h = cc
same_king c Knight b (Some j) d h = cc
same_king c Pawn b (Some King) d h = cc
same_king c Pawn b (Some Queen) d h = refl
same_king c Pawn b (Some Rook) d h = refl
same_king c Pawn b (Some Bishop) d h = refl
same_king c Pawn b (Some Knight) d h = refl
same_king c Pawn b (Some Pawn) d h = cc

pub zero_king : (d : Colour) → (0 == cell_of_man (record { colour = d; kind = King })) ≡ false
zero_king White = refl
zero_king Black = refl

pub king_there : (d : Colour) → (cell_of_man (record { colour = d; kind = King }) == 0) ≡ false
king_there White = refl
king_there Black = refl
