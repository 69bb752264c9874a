-- Sets of squares, written as squares and rectangles with commas between them.
use Rattle.std.specs.Prelude.{ℕ, ◌+◌, ◌-◌, ◌*◌, Bool, false, ◌&&◌, ◌==◌, nat_le, List, [], ◌∷◌, map, option_map, Option, None, Some, if◌then◌else◌, codes}
use Rattle.std.specs.List.{list_any}
use Rattle.std.specs.Str.{bytes_eq}
pub use Rattle.frz_squares.specs.Squares.{file_of, rank_of}
pub use Rattle.frz_squares.specs.SquareSets.{has_square}
unfoldable pub use Rattle.frz_squares.specs.SquareSets.{set_of}
use Rattle.frz_words.specs.Parts.{split}
use Rattle.frz_words.specs.declared.squares.Rectangle.{Rectangle}

-- the square, with a1 = 0 and h8 = 63, of the bytes of a letter a to h and a digit 1 to 8
abbrev pub square_of : ℕ → ℕ → Option ℕ
square_of letter digit =
    if (nat_le 97 letter && nat_le letter 104) && (nat_le 49 digit && nat_le digit 56)
    then Some (8 * (digit - 49) + (letter - 97)) else None

-- the rectangle between two corners, where the first is on no higher file or rank than the last
abbrev pub between : Option ℕ → Option ℕ → Option Rectangle
between None last = None
between (Some s) None = None
between (Some s) (Some t) =
    if nat_le (file_of s) (file_of t) && nat_le (rank_of s) (rank_of t)
    then Some (record { first = s; last = t }) else None

-- the squares of an item: of a square, of `all`, or of two corners with a hyphen between them
abbrev pub item_of : List ℕ → Option Rectangle
item_of (f ∷ r ∷ []) = between (square_of f r) (square_of f r)
item_of (a ∷ b ∷ c ∷ []) =
    if bytes_eq (a ∷ b ∷ c ∷ []) (codes "all") then between (Some 0) (Some 63) else None
item_of (f ∷ r ∷ hyphen ∷ g ∷ s ∷ []) =
    if hyphen == 45 then between (square_of f r) (square_of g s) else None
item_of _ = None

abbrev pub covers : Rectangle → ℕ → Bool
covers r s =
    (nat_le (file_of r.first) (file_of s) && nat_le (file_of s) (file_of r.last))
    && (nat_le (rank_of r.first) (rank_of s) && nat_le (rank_of s) (rank_of r.last))

abbrev pub is_comma : ℕ → Bool
is_comma b = b == 44

abbrev pub with_item : Rectangle → Option (List Rectangle) → Option (List Rectangle)
with_item r None = None
with_item r (Some rs) = Some (r ∷ rs)

-- the items; None where one part of the word is no item
abbrev pub all_items : List (Option Rectangle) → Option (List Rectangle)
all_items [] = Some []
all_items (None ∷ items) = None
all_items ((Some r) ∷ items) = with_item r (all_items items)

abbrev pub items_of : List ℕ → Option (List Rectangle)
items_of word = all_items (map item_of (split is_comma word))

-- whether one of the items covers the square
abbrev pub is_covered : List Rectangle → ℕ → Bool
is_covered items s = list_any (λ r. covers r s) items

-- the set of squares that a word writes: the union of its items
unfoldable pub squares_of : List ℕ → Option ℕ
squares_of word = option_map (λ items. set_of (is_covered items)) (items_of word)

abbrev pub covered_by : Option (List Rectangle) → ℕ → Bool
covered_by None s = false
covered_by (Some items) s = is_covered items s

-- whether the square belongs to the set that the word writes
unfoldable pub is_square_of : List ℕ → ℕ → Bool
is_square_of word s = covered_by (items_of word) s

-- the square that a word of two bytes names
abbrev pub square_word : List ℕ → Option ℕ
square_word (letter ∷ digit ∷ []) = square_of letter digit
square_word _ = None
