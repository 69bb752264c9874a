-- What the line of a number says, if it is an exit line.
use Rattle.std.specs.Prelude.{ℕ, ◌==◌, List, [], ◌∷◌, Option, None, if◌then◌else◌, find, option_and_then, codes}
use Rattle.frz_words.specs.Lines.{lines, numbered}
use Rattle.frz_words.specs.Words.{words}
use Rattle.frz_sets.specs.Views.{ExitLine}
use Rattle.frz_rules.specs.Classes.{is}
use Rattle.frz_rules.specs.Lines.{exit_of}

-- what the words of a line say, if the first is `exit`: `exit VALUE if COND ..`
abbrev pub exit_said : List (List ℕ) → Option ExitLine
exit_said [] = None
exit_said (w ∷ ws) = if is (codes "exit") w then exit_of ws else None

-- what the line with this number says, if the text has one and it is an exit line
unfoldable pub exit_on_line : List ℕ → ℕ → Option ExitLine
exit_on_line text n =
    option_and_then (λ l. exit_said (words l.1)) (find (λ l. l.0 == n) (numbered 1 (lines text)))
