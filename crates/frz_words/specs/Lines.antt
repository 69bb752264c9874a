-- The lines of a text.
use Rattle.std.specs.Prelude.{ℕ, ◌+◌, Bool, ◌==◌, List, [], ◌∷◌}
use Rattle.frz_words.specs.Parts.{split}

abbrev pub is_line_feed : ℕ → Bool
is_line_feed b = b == 10

-- the parts between line feeds without an empty last one: behind a last line feed, and in an empty
-- text, there is no line
abbrev pub without_empty_end : List (List ℕ) → List (List ℕ)
without_empty_end [] = []
without_empty_end ([] ∷ []) = []
without_empty_end ((b ∷ bs) ∷ []) = (b ∷ bs) ∷ []
without_empty_end (line ∷ next ∷ others) = line ∷ without_empty_end (next ∷ others)

abbrev pub lines : List ℕ → List (List ℕ)
lines text = without_empty_end (split is_line_feed text)

-- each line with its number, the first with n
abbrev pub numbered : ℕ → List (List ℕ) → List (ℕ × List ℕ)
numbered n [] = []
numbered n (line ∷ others) = (n, line) ∷ numbered (n + 1) others
