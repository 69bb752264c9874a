-- The text of a move, as e2e4 or e7e8q.
use Rattle.std.specs.Prelude.{ℕ, ◌+◌, List, [], ◌∷◌, Option, None, Some}
use Rattle.frz_board.specs.declared.man.Kind.{Kind}
use Rattle.frz_board.specs.Men.{letter_of_kind}
use Rattle.frz_board.specs.Squares.{file_of, rank_of}
use Rattle.frz_board.specs.Moving.{Step}

-- the letter of the file, from a
abbrev pub file_letter : ℕ → ℕ
file_letter s = 97 + file_of s

-- the digit of the rank, from 1
abbrev pub rank_digit : ℕ → ℕ
rank_digit s = 49 + rank_of s

-- the small letter of what a pawn becomes, or nothing
abbrev pub promotion_text : Option Kind → List ℕ
promotion_text None = []
promotion_text (Some k) = (letter_of_kind k + 32) ∷ []

abbrev pub text_of : Step → List ℕ
text_of m =
    file_letter m.from ∷ rank_digit m.from
    ∷ file_letter m.to ∷ rank_digit m.to ∷ promotion_text m.promo
