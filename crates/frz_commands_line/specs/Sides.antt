-- The word SIDE of a command.
use Rattle.std.specs.Prelude.{◌≡◌, ℕ, List, [], ◌∷◌, Option, Some, None, if◌then◌else◌, codes}
use Rattle.std.specs.Str.{bytes_eq}
use Rattle.frz_board.specs.declared.man.Colour.{Colour}
use Rattle.frz_board.specs.declared.man.Colour.TheVariants.{White, Black}
use Rattle.frz_answer.specs.declared.status.Status.TheVariants.{Words}
use Rattle.frz_answer.specs.Answers.{says}
use Rattle.frz_answer.specs.Jobs.{Job, plain}

abbrev pub side_of : List ℕ → Option Colour
side_of word =
    if bytes_eq word (codes "white") then Some White else
    (if bytes_eq word (codes "black") then Some Black else None)

-- the line that refuses a word that names no side
abbrev pub side_line : List ℕ
side_line = codes "words: side\n"

-- the job for the side that the word names; a word that names no side is refused
abbrev pub on_side : (Colour → Job) → Option Colour → Job
on_side job None = plain (Words ∷ []) (λ files input a. a ≡ says Words side_line files)
on_side job (Some side) = job side
