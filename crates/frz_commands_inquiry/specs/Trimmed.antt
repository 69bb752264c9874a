-- A line without the blanks at its ends.
use Rattle.std.specs.Prelude.{ℕ, ◌-◌, not, List, [], length, take, drop, Option, Some, None}
use Rattle.std.specs.List.{position, suffix_len}
use Rattle.frz_words.specs.Words.{is_blank}

-- what begins there, or nothing
abbrev pub from_place : List ℕ → Option ℕ → List ℕ
from_place line (Some start) = drop start line
from_place line None = []

-- the line from its first byte on that is no blank
abbrev pub without_front : List ℕ → List ℕ
without_front line = from_place line (position (λ b. not (is_blank b)) line)

-- the line up to its last byte that is no blank
abbrev pub without_end : List ℕ → List ℕ
without_end line = take (length line - suffix_len is_blank line) line

abbrev pub trimmed : List ℕ → List ℕ
trimmed line = without_end (without_front line)
