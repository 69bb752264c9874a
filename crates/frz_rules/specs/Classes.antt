-- The classes of single words: COLOUR, KIND, COUNT, RANGE, PLACE and LAG.
use Rattle.std.specs.Prelude.{ℕ, Bool, ◌==◌, nat_le, List, [], ◌∷◌, Option, None, Some, if◌then◌else◌, codes}
use Rattle.std.specs.Str.{bytes_eq}
use Rattle.frz_board.specs.declared.man.Colour.{Colour}
use Rattle.frz_board.specs.declared.man.Colour.TheVariants.{White, Black}
use Rattle.frz_board.specs.declared.man.Kind.{Kind}
use Rattle.frz_board.specs.Men.{kind_of_letter}
use Rattle.frz_sets.specs.declared.limits.TheConstants.{MOST_MEN, MOST_LAG}
use Rattle.frz_words.specs.Parts.{split}
use Rattle.frz_words.specs.Numbers.{number_of}
use Rattle.frz_words.specs.Squares.{squares_of}

-- whether the word is this very text
abbrev pub is : List ℕ → List ℕ → Bool
is text word = bytes_eq word text

abbrev pub colour_of : List ℕ → Option Colour
colour_of word =
    if is (codes "white") word then Some White else
    (if is (codes "black") word then Some Black else None)

-- the kind of a word of one letter, K, Q, R, B, N or P
abbrev pub kind_of : List ℕ → Option Kind
kind_of [] = None
kind_of (letter ∷ []) = kind_of_letter letter
kind_of (letter ∷ other ∷ rest) = None

abbrev pub both : {A B : Type 0} → Option A → Option B → Option (A × B)
both None b = None
both (Some a) None = None
both (Some a) (Some b) = Some (a, b)

abbrev pub is_hyphen : ℕ → Bool
is_hyphen b = b == 45

abbrev pub is_colon : ℕ → Bool
is_colon b = b == 58

abbrev pub least_and_most : List (List ℕ) → Option (ℕ × ℕ)
least_and_most (n ∷ []) = both (number_of n MOST_MEN) (number_of n MOST_MEN)
least_and_most (m ∷ n ∷ []) = both (number_of m MOST_MEN) (number_of n MOST_MEN)
least_and_most _ = None

-- a number of men, or two with a hyphen between them; one alone is both the least and the most
abbrev pub count_of : List ℕ → Option (ℕ × ℕ)
count_of word = least_and_most (split is_hyphen word)

abbrev pub in_order : Option (ℕ × ℕ) → Option (ℕ × ℕ)
in_order None = None
in_order (Some r) = if nat_le r.0 r.1 then Some r else None

-- a count whose first number is at most the second
abbrev pub range_of : List ℕ → Option (ℕ × ℕ)
range_of word = in_order (count_of word)

abbrev pub kind_and_squares : List (List ℕ) → Option (Kind × ℕ)
kind_and_squares (k ∷ s ∷ []) = both (kind_of k) (squares_of s)
kind_and_squares _ = None

-- a kind and its squares, with a colon between them
abbrev pub place_of : List ℕ → Option (Kind × ℕ)
place_of word = kind_and_squares (split is_colon word)

-- a number of plies, at most 1,000
abbrev pub lag_of : List ℕ → Option ℕ
lag_of word = number_of word MOST_LAG
