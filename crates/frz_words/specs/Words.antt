-- The words of a line.
use Rattle.std.specs.Prelude.{ℕ, ◌-◌, Bool, true, false, not, ◌==◌, ◌||◌, List, [], ◌∷◌, if◌then◌else◌, Option, Some, None}
use Rattle.std.specs.List.{filter}
use Rattle.frz_words.specs.Parts.{split}

-- whether the byte is a space, a tab or a carriage return
abbrev pub is_blank : ℕ → Bool
is_blank b = b == 32 || (b == 9 || b == 13)

abbrev pub has_bytes : List ℕ → Bool
has_bytes [] = false
has_bytes (b ∷ bs) = true

-- the words of a line: the longest runs of bytes that are no blanks
unfoldable pub words : List ℕ → List (List ℕ)
words line = filter has_bytes (split is_blank line)

-- the k-th word, counted from 1
abbrev pub word_at : List (List ℕ) → ℕ → Option (List ℕ)
word_at [] k = None
word_at (word ∷ others) k =
    if k == 0 then None else (if k == 1 then Some word else word_at others (k - 1))

abbrev pub begins_word : List ℕ → Bool
begins_word [] = false
begins_word (b ∷ bs) = not (is_blank b)
