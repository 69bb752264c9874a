-- What is left of a session's input, its lines, and which moves of the opponent they say.
use Rattle.std.specs.Prelude.{◌+◌, ℕ, zero, suc, nat_lt, not, List, [], ◌∷◌, take, drop, position, Option, Some, None, if◌then◌else◌}
use Rattle.std.specs.List.{prefix_len}
use Rattle.std.specs.Str.{bytes_eq}
use Rattle.frz_board.specs.Moving.{Step}
use Rattle.frz_board.specs.Texts.{text_of}
use Rattle.frz_sets.specs.declared.exit.Value.{Value}
use Rattle.frz_words.specs.Lines.{is_line_feed}
use Rattle.frz_words.specs.Words.{words}
use Rattle.frz_arena.specs.declared.arm.Arm.{Arm}
use Rattle.frz_arena.specs.Inputs.{Answer, Reply, Stop}
use Rattle.frz_ways.specs.declared.session_end.PlayLimit.TheVariants.{Lines, LineLength}
use Rattle.frz_ways.specs.declared.hearing.Why.{Why}
use Rattle.frz_ways.specs.declared.hearing.Why.TheVariants.{Ended, Limit}
use Rattle.frz_ways.specs.declared.session_end.TheConstants.{MOST_LINES, MOST_LENGTH}

-- the bytes that are left, and how many lines may still be read
pub record Input : Type 0 where
  pub left : List ℕ
  pub more : ℕ

-- an input of which nothing was read yet
abbrev pub opened : List ℕ → Input
opened bytes = record { left = bytes; more = MOST_LINES }

-- how many bytes stand before the first line feed, or before the end
abbrev pub line_length : List ℕ → ℕ
line_length left = prefix_len (λ b. not (is_line_feed b)) left

abbrev pub first_line : List ℕ → List ℕ
first_line left = take (line_length left) left

-- what follows the first line and its line feed; a last line may have none
abbrev pub behind_line : List ℕ → List ℕ
behind_line left = drop (line_length left + 1) left

-- the word of a line that has just one word; blanks around it do not matter
abbrev pub only_of : List (List ℕ) → Option (List ℕ)
only_of [] = None
only_of (word ∷ []) = Some word
only_of (word ∷ next ∷ others) = None

-- the place of the first move whose text is this word
abbrev pub place_by : List (Arm Step ℕ Value) → Option (List ℕ) → Option ℕ
place_by arms None = None
place_by arms (Some word) = position (λ a. bytes_eq word (text_of a.mv)) arms

-- the place of the move that the line says
abbrev pub place_said : List (Arm Step ℕ Value) → (line : List ℕ) → Option ℕ
place_said arms line = place_by arms (only_of (words line))

-- why an input gives no reply, and how many of its lines were refused before
pub record Halt : Type 0 where
  pub refused : ℕ
  pub why : Why

abbrev pub halted : Why → Halt
halted why = record { refused = 0; why = why }

-- an answer with one more refused line before it
abbrev pub refuse_one : Answer Input Halt → Answer Input Halt
refuse_one (Reply refused place left) = Reply (suc refused) place left
refuse_one (Stop halt left) = Stop (record halt { refused = suc halt.refused }) left

-- the move that a line says is the reply; a line that says none is refused
abbrev pub reply_or : Option ℕ → Input → (next : Answer Input Halt) → Answer Input Halt
reply_or (Some place) left next = Reply 0 place left
reply_or None left next = refuse_one next

-- what the input gives to an opponent with these moves. The limit of lines is checked first, then
-- the end of the input, then the length of the line
abbrev pub reads : List (Arm Step ℕ Value) → (more : ℕ) → (left : List ℕ) → Answer Input Halt
reads arms zero left = Stop (halted (Limit Lines)) (record { left = left; more = 0 })
reads arms (suc more) [] = Stop (halted Ended) (record { left = []; more = suc more })
reads arms (suc more) (b ∷ bs) =
    if nat_lt MOST_LENGTH (line_length (b ∷ bs))
    then Stop (halted (Limit LineLength))
    (record { left = drop (MOST_LENGTH + 1) (b ∷ bs); more = suc more })
    else reply_or (place_said arms (first_line (b ∷ bs)))
    (record { left = behind_line (b ∷ bs); more = more })
    (reads arms more (behind_line (b ∷ bs)))
