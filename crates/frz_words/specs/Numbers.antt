-- Decimal numbers.
use Rattle.std.specs.Prelude.{ℕ, ◌+◌, ◌-◌, ◌*◌, Bool, ◌&&◌, nat_le, List, [], ◌∷◌, length, Option, None, Some, if◌then◌else◌}
use Rattle.std.specs.List.{list_all}

-- the byte of a decimal digit
abbrev pub is_digit : ℕ → Bool
is_digit b = nat_le 48 b && nat_le b 57

-- the value of n followed by these digits
abbrev pub decimal : ℕ → List ℕ → ℕ
decimal n [] = n
decimal n (d ∷ ds) = decimal (10 * n + (d - 48)) ds

abbrev pub is_short : List ℕ → Bool
is_short word = nat_le 1 (length word) && nat_le (length word) 9

-- the value of one to nine digits, where it is at most `most`
unfoldable pub number_of : List ℕ → ℕ → Option ℕ
number_of word most =
    if is_short word && (list_all is_digit word && nat_le (decimal 0 word) most)
    then Some (decimal 0 word) else None
