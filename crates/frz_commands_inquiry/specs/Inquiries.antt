-- The lines of an input, and what is answered to them, one line for each.
use Rattle.std.specs.Prelude.{ℕ, zero, suc, ◌+◌, nat_lt, List, [], ◌∷◌, ◌++◌, length, take, if◌then◌else◌, codes}
use Rattle.frz_answer.specs.declared.status.Status.{Status}
use Rattle.frz_answer.specs.declared.status.Status.TheVariants.{Success, Limit}
use Rattle.frz_ways.specs.Reading.{behind_line, first_line, line_length}
use Rattle.frz_commands_inquiry.specs.declared.inquiring.Halt.{Halt}
use Rattle.frz_commands_inquiry.specs.declared.inquiring.Halt.TheVariants.{InputEnded, Lines, LineLength}
use Rattle.frz_commands_inquiry.specs.declared.input_line.TheConstants.{MOST_LENGTH}

-- what is written, how it ends, and how many bytes are taken of the input
pub record Inquiry : Type 0 where
  pub text : List ℕ
  pub halt : Halt
  pub taken : ℕ

-- nothing more is answered
abbrev pub halts : Halt → (taken : ℕ) → Inquiry
halts halt taken = record { text = []; halt = halt; taken = taken }

-- a line that was answered, before what follows
abbrev pub answering : (reply : List ℕ) → (taken : ℕ) → Inquiry → Inquiry
answering reply taken next = record {
  text = (reply ++ codes "\n") ++ next.text;
  halt = next.halt;
  taken = taken + next.taken;
}

-- the first line with its line feed, if it has one
abbrev pub whole_line : List ℕ → List ℕ
whole_line left = take (line_length left + 1) left

-- the lines that are left are answered from the first on, at most so many. The limit of lines is
-- checked first, then the end of the input, then the length of the line
abbrev pub inquiry : (reply : List ℕ → List ℕ) → (more : ℕ) → (left : List ℕ) → Inquiry
inquiry reply zero left = halts Lines 0
inquiry reply (suc more) [] = halts InputEnded 0
inquiry reply (suc more) (b ∷ bs) =
    if nat_lt MOST_LENGTH (line_length (b ∷ bs)) then halts LineLength (MOST_LENGTH + 1)
    else answering (reply (first_line (b ∷ bs))) (length (whole_line (b ∷ bs)))
    (inquiry reply more (behind_line (b ∷ bs)))

-- the last line of the text
abbrev pub halt_line : Halt → List ℕ
halt_line InputEnded = codes "input ended\n"
halt_line Lines = codes "limit lines\n"
halt_line LineLength = codes "limit line length\n"

abbrev pub halt_status : Halt → Status
halt_status InputEnded = Success
halt_status Lines = Limit
halt_status LineLength = Limit
