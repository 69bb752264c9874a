-- What `sample K` answers: it tells of the tables of two kings and a rook anywhere, where the rook
-- never moves to the square K.
use Rattle.std.specs.Prelude.{◌≡◌, ℕ, ◌-◌, ◌*◌, ◌/◌, ◌==◌, Bool, max, List, [], ◌∷◌, ◌++◌, true, Some, Option, None, Ok, if◌then◌else◌, codes, decimal}
use Rattle.std.specs.List.{count_by, fold}
use Rattle.frz_store.specs.Files.{Files}
use Rattle.frz_answer.specs.declared.status.Status.TheVariants.{Success, Words}
use Rattle.frz_answer.specs.Answers.{Answer, says}
use Rattle.frz_answer.specs.Jobs.{Job, plain, nothing, steps_alone, WithinCosts}
use Rattle.frz_answer.specs.Words.{taking, one_word_of}
use Rattle.frz_board.specs.declared.man.Colour.{Colour}
use Rattle.frz_board.specs.declared.man.Colour.TheVariants.{White, Black}
use Rattle.frz_bound_lines.specs.BoundLines.{side_name}
use Rattle.frz_board.specs.Texts.{file_letter, rank_digit}
use Rattle.frz_sets.specs.Views.{RuleLines}
use Rattle.frz_rules.specs.Text.{rules_of}
use Rattle.frz_exits.specs.Books.{value_by}
use Rattle.frz_arena.specs.declared.bound.Bound.TheVariants.{Holds}
use Rattle.frz_arena.specs.Codes.{code_of, is_win, is_failure}
use Rattle.frz_game.specs.Bounds.{IsTableOf}
use Rattle.frz_words.specs.Numbers.{number_of}
use Rattle.frz_commands_table.specs.declared.sample.TheConstants.{LAST_SQUARE}
use Rattle.frz_commands_table.specs.declared.tallies.TheConstants.{BROKEN}

-- the rules text; `k` is the number of a square, which the text names
abbrev pub sample_text : ℕ → List ℕ
sample_text k =
    codes "freezer 1\ngroup white 1 K:all\ngroup white 1 R:all\ngroup black 1 K:all\nforbid white R from all to "
    ++ (file_letter k ∷ rank_digit k ∷ codes "\nexit draw if count:white:R:0\n")

-- the size of the set: two sides to move, and 64 squares for each of three men
abbrev pub sample_size : ℕ
sample_size = 2 * 64 * 64 * 64

abbrev pub is_code : ℕ → ℕ → Bool
is_code wanted code = code == wanted

-- the plies of a win, and 0 where the code is none
abbrev pub win_plies : ℕ → ℕ
win_plies code = if is_win code then (code - 2) / 2 else 0

-- the most plies of a win, and 0 where there is none
abbrev pub longest : List ℕ → ℕ
longest table = fold (λ most code. max (win_plies code) most) 0 table

-- how many wins, holds and failures (`none`) there are, and the most plies of a win
abbrev pub tally_text : ℕ → ℕ → ℕ → ℕ → List ℕ
tally_text wins holds none plies =
    codes " wins " ++ (decimal wins
    ++ (codes " holds " ++ (decimal holds
    ++ (codes " none " ++ (decimal none
    ++ (codes " longest " ++ decimal plies))))))

abbrev pub counts_text : List ℕ → List ℕ
counts_text table =
    tally_text (count_by is_win table) (count_by (is_code (code_of Holds)) table)
    (count_by is_failure table) (longest table)

abbrev pub side_line : Colour → List ℕ → List ℕ
side_line side table = side_name side ++ (counts_text table ++ codes "\n")

-- the number of the square, the size of the set, and how many numbers are broken
abbrev pub head_text : ℕ → ℕ → ℕ → List ℕ
head_text k size broken =
    codes "sample " ++ (decimal k
    ++ (codes "\nnumbers " ++ (decimal size
    ++ (codes "\nbroken " ++ (decimal broken ++ codes "\n")))))

abbrev pub sample_lines : ℕ → ℕ → List ℕ → List ℕ → List ℕ
sample_lines k size white black =
    head_text k size (count_by (is_code BROKEN) white)
    ++ (side_line White white ++ (side_line Black black ++ codes "exact\n"))

-- the answer for rules that were read: the lines tell of the exact tables of both sides
abbrev pub IsSampledBy : ℕ → RuleLines → Files → Answer → Type 0
IsSampledBy k r files a =
    (white : List ℕ) × (black : List ℕ)
    × IsTableOf r (value_by r) White white × IsTableOf r (value_by r) Black black
    × (a ≡ says Success (sample_lines k sample_size white black) files)

-- the answer at the square of a number: by the rules of its text
abbrev pub IsSampled : ℕ → Files → Answer → Type 0
IsSampled k files a = (r : RuleLines) × (rules_of (sample_text k) ≡ Ok r) × IsSampledBy k r files a

-- `sample` at the square of a number: no file is read or changed, and at most five steps a number
-- are made
abbrev pub sampling : ℕ → Job
sampling k = record (plain (Success ∷ []) (λ files input a. IsSampled k files a)) {
  needs = record nothing { memory = true };
  costs = λ files input a. WithinCosts (steps_alone (Some (5 * sample_size)));
}

-- the line that refuses a word that is not the number of a square
abbrev pub number_line : List ℕ
number_line = codes "words: number\n"

abbrev pub sampling_named : Option ℕ → Job
sampling_named None = plain (Words ∷ []) (λ files input a. a ≡ says Words number_line files)
sampling_named (Some k) = sampling k

-- sample K: K is the number of a square, written with one to nine digits
abbrev pub sample_words : List (List ℕ) → Job
sample_words words =
    taking (λ word. sampling_named (number_of word LAST_SQUARE)) (one_word_of words)
