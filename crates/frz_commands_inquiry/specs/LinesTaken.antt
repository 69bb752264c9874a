-- How a line is taken of an input, and what is then still to be answered.
use Rattle.std.specs.Prelude.{◌≡◌, ◌≢◌, ◌≤◌, ◌+◌, ◌-◌, ℕ, true, List, [], ◌∷◌, ◌++◌, length, Option, Some, None, Result, Ok, Err}
use Rattle.frz_store.specs.Told.{SourceTold}
use Rattle.frz_store.specs.declared.outside.Failed.{Failed}
use Rattle.frz_ways.specs.Hearing.{HasEnded, IsOneLine}
use Rattle.frz_ways.specs.SessionFaults.{TookBytes}
use Rattle.frz_commands_inquiry.specs.declared.inquiring.Halt.{Halt}
use Rattle.frz_commands_inquiry.specs.declared.inquiring.Halt.TheVariants.{InputEnded, LineLength}
use Rattle.frz_commands_inquiry.specs.declared.inquiring.Reader.{Reader}
use Rattle.frz_commands_inquiry.specs.declared.input_line.NextLine.{NextLine}
use Rattle.frz_commands_inquiry.specs.declared.input_line.NextLine.TheVariants.{Nothing, Whole, Last, TooLong}
use Rattle.frz_commands_inquiry.specs.declared.input_line.TheConstants.{MOST_LENGTH}
use Rattle.frz_commands_inquiry.specs.Inquiries.{Inquiry, answering, halts, inquiry}

-- one byte more than a line may have was taken, and no line feed
abbrev pub TookTooLong : SourceTold → SourceTold → Type 0
TookTooLong old new =
    (bytes : List ℕ) × IsOneLine bytes × (length bytes ≡ MOST_LENGTH + 1) × TookBytes bytes old new

-- a line was taken, with its line feed if it has one; where the input failed, a part of a line
abbrev pub GaveLine : Result NextLine Failed → (line : List ℕ) → SourceTold → SourceTold → Type 0
GaveLine (Ok Nothing) line old new = TookBytes [] old new × HasEnded new
GaveLine (Ok Whole) line old new = IsOneLine line × TookBytes (line ++ 10 ∷ []) old new
GaveLine (Ok Last) line old new =
    IsOneLine line × (line ≢ []) × TookBytes line old new × HasEnded new
GaveLine (Ok TooLong) line old new = TookTooLong old new
GaveLine (Err fault) line old new = IsOneLine line × TookBytes line old new

-- how a line that was read leaves the reader
abbrev pub after_line : Reader → NextLine → Reader
after_line reader Nothing = record { more = reader.more; ended = true }
after_line reader Whole = record { more = reader.more - 1; ended = reader.ended }
after_line reader Last = record { more = reader.more - 1; ended = true }
after_line reader TooLong = reader

-- why what was read is no line, where it is none
abbrev pub no_line : NextLine → Option Halt
no_line Nothing = Some InputEnded
no_line TooLong = Some LineLength
no_line line = None

-- what may follow in the input: nothing, once the reader has seen its end
abbrev pub MayFollow : Reader → (rest : List ℕ) → Type 0
MayFollow reader rest = reader.ended ≡ true → rest ≡ []

-- what is to be answered, by what was read: a line and what follows it, or nothing more. At a fault
-- at least these bytes are taken
abbrev pub IsNext : (reply : List ℕ → List ℕ) → Inquiry → (line bytes rest : List ℕ) → (more : ℕ) →
    Result (Option Halt) Failed → Type 0
IsNext reply told line bytes rest more (Ok None) =
    told ≡ answering (reply line) (length bytes) (inquiry reply more rest)
IsNext reply told line bytes rest more (Ok (Some halt)) = told ≡ halts halt (length bytes)
IsNext reply told line bytes rest more (Err fault) = length bytes ≤ told.taken

-- where a line was read, one line fewer may still be read
abbrev pub IsCounted : Result (Option Halt) Failed → (old new : ℕ) → Type 0
IsCounted (Ok None) old new = new + 1 ≡ old
IsCounted result old new = new ≡ old

-- the next line was taken, or there was none; `told` says so whatever follows it in the input
pub record TakesLine (old new : Reader) (result : Result (Option Halt) Failed) (line : List ℕ)
    (source left : SourceTold) : Type 0 where
  pub bytes : List ℕ
  pub took : TookBytes bytes source left
  pub ended : new.ended ≡ true → HasEnded left
  pub stays : old.ended ≡ true → (bytes ≡ []) × (new.ended ≡ true)
  pub counted : IsCounted result old.more new.more
  pub told : (reply : List ℕ → List ℕ) (rest : List ℕ) → MayFollow new rest →
      IsNext reply (inquiry reply old.more (bytes ++ rest)) line bytes rest new.more result
