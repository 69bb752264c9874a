-- The numbers of the exit lines of a text.
use Rattle.std.specs.Prelude.{ℕ, Bool, false, List, [], ◌∷◌, map, filter, codes}
use Rattle.frz_words.specs.Lines.{lines, numbered}
use Rattle.frz_words.specs.Words.{words}
use Rattle.frz_rules.specs.Classes.{is}

-- the first word is `exit`
abbrev pub begins_exit : List (List ℕ) → Bool
begins_exit [] = false
begins_exit (w ∷ ws) = is (codes "exit") w

-- of these lines, each with its number, the numbers of those whose first word is `exit`
abbrev pub exit_numbers : List (ℕ × List ℕ) → List ℕ
exit_numbers ls = map (λ l. l.0) (filter (λ l. begins_exit (words l.1)) ls)

-- the numbers of the exit lines of a text, in order; its first line has number 1
unfoldable pub exit_numbers_of : List ℕ → List ℕ
exit_numbers_of text = exit_numbers (numbered 1 (lines text))
