-- How lines are taken of an input: a byte, a line, and the lines up to a reply.
use Rattle.std.specs.Prelude.{◌≡◌, ◌≢◌, ◌⊎◌, ◌≤◌, ◌<◌, ◌+◌, ◌-◌, ℕ, zero, suc, true, List, [], ◌∷◌, ◌++◌, length, Option, Some, None, IfSome, Result, Ok, Err, ⊤}
use Rattle.frz_board.specs.Moving.{Step}
use Rattle.frz_sets.specs.declared.exit.Value.{Value}
use Rattle.frz_store.specs.Told.{SourceTold, SinkTold}
use Rattle.frz_store.specs.declared.outside.Failed.{Failed}
use Rattle.frz_arena.specs.declared.arm.Arm.{Arm}
use Rattle.frz_arena.specs.Inputs.{Answer, Reply, Stop}
use Rattle.frz_ways.specs.declared.end.LineFault.TheVariants as faults
use Rattle.frz_ways.specs.declared.session_end.PlayFault.{PlayFault}
use Rattle.frz_ways.specs.declared.session_end.PlayFault.TheVariants as plays
use Rattle.frz_ways.specs.declared.session_end.TheConstants.{MOST_LENGTH}
use Rattle.frz_ways.specs.declared.hearing.Heard.{Heard}
use Rattle.frz_ways.specs.declared.hearing.Heard.TheVariants as heard
use Rattle.frz_ways.specs.declared.hearing.Reader.{Reader}
use Rattle.frz_ways.specs.declared.hearing.Why.{Why}
use Rattle.frz_ways.specs.declared.hearing.Why.TheVariants.{Ended, Limit}
use Rattle.frz_ways.specs.declared.session_end.PlayLimit.TheVariants.{LineLength}
use Rattle.frz_ways.specs.declared.input_line.NextLine.{NextLine}
use Rattle.frz_ways.specs.declared.input_line.NextLine.TheVariants.{Nothing, Whole, Last, TooLong}
use Rattle.frz_ways.specs.SessionFaults.{WroteBy, TookBytes}
use Rattle.frz_ways.specs.Reading.{Input, Halt, halted, line_length, place_said, reads, refuse_one, reply_or}
use Rattle.frz_ways.specs.SessionTexts.{refused_text}

-- the input is at its end, where it is known what it has left
abbrev pub HasEnded : SourceTold → Type 0
HasEnded input = IfSome input.left (λ left. left ≡ [])

-- this byte was taken, or the input had none, or it failed and none was taken
abbrev pub GaveByte : Result (Option ℕ) Failed → SourceTold → SourceTold → Type 0
GaveByte (Ok (Some byte)) old new = TookBytes (byte ∷ []) old new
GaveByte (Ok None) old new = TookBytes [] old new × HasEnded new
GaveByte (Err fault) old new = TookBytes [] old new

-- the bytes have no line feed
abbrev pub IsOneLine : List ℕ → Type 0
IsOneLine bytes = line_length bytes ≡ length bytes

-- one byte more than a line may have was taken, and no line feed
abbrev pub TookTooLong : SourceTold → SourceTold → Type 0
TookTooLong old new =
    (bytes : List ℕ) × IsOneLine bytes × (length bytes ≡ MOST_LENGTH + 1) × TookBytes bytes old new

-- a line was taken, with its line feed if it has one; where the input failed, a part of a line
abbrev pub GaveLine : Result NextLine Failed → (line : List ℕ) → SourceTold → SourceTold → Type 0
GaveLine (Ok Nothing) line old new = TookBytes [] old new × HasEnded new
GaveLine (Ok Whole) line old new = IsOneLine line × TookBytes (line ++ 10 ∷ []) old new
GaveLine (Ok Last) line old new =
    IsOneLine line × (line ≢ []) × TookBytes line old new × HasEnded new
GaveLine (Ok TooLong) line old new = TookTooLong old new
GaveLine (Err fault) line old new = IsOneLine line × TookBytes line old new

-- what may follow in the input: nothing, once the reader has seen its end
abbrev pub MayFollow : Reader → (rest : List ℕ) → Type 0
MayFollow reader rest = reader.ended ≡ true → rest ≡ []

-- how a line that was read leaves the reader
abbrev pub after_line : Reader → NextLine → Reader
after_line reader Nothing = record { more = reader.more; ended = true }
after_line reader Whole = record { more = reader.more - 1; ended = reader.ended }
after_line reader Last = record { more = reader.more - 1; ended = true }
after_line reader TooLong = reader

-- why what was read is no line, where it is none
abbrev pub no_line : NextLine → Option Why
no_line Nothing = Some Ended
no_line TooLong = Some (Limit LineLength)
no_line line = None

-- where the end was seen before, nothing was taken
abbrev pub StaysEnded : (old new : Reader) → (bytes : List ℕ) → Type 0
StaysEnded old new bytes = old.ended ≡ true → (bytes ≡ []) × (new.ended ≡ true)

-- the bytes of the input that are left behind an answer
abbrev pub left_by : Answer Input Halt → List ℕ
left_by (Reply refused place left) = left.left
left_by (Stop halt left) = left.left

-- the bytes end with these
abbrev pub EndsWith : (end bytes : List ℕ) → Type 0
EndsWith end bytes = (unread : List ℕ) × (unread ++ end ≡ bytes)

-- what the input gives to an opponent with these moves, by what was read: a line, or why there is
-- none. At a fault the answer may take more of the input than was taken
abbrev pub IsLineHeard : List (Arm Step ℕ Value) → Answer Input Halt → (line rest : List ℕ) →
    (more : ℕ) →
    Result (Option Why) Failed → Type 0
IsLineHeard arms answer line rest more (Ok None) =
    answer ≡ reply_or (place_said arms line) (record { left = rest; more = more })
    (reads arms more rest)
IsLineHeard arms answer line rest more (Ok (Some why)) =
    answer ≡ Stop (halted why) (record { left = rest; more = more })
IsLineHeard arms answer line rest more (Err fault) = EndsWith (left_by answer) rest

-- where a line was read, fewer lines may still be read; else as many as before
abbrev pub AreFewer : Result (Option Why) Failed → (old new : ℕ) → Type 0
AreFewer (Ok None) old new = new < old
AreFewer result old new = new ≡ old

-- the next line was taken, or there was none; `heard` says so whatever follows it in the input
pub record HearsLine
    (old new : Reader) (result : Result (Option Why) Failed) (line : List ℕ)
    (source left : SourceTold) : Type 0 where
  pub bytes : List ℕ
  pub took : TookBytes bytes source left
  pub ended : new.ended ≡ true → HasEnded left
  pub stays : StaysEnded old new bytes
  pub fewer : AreFewer result old.more new.more
  pub heard : (arms : List (Arm Step ℕ Value)) (rest : List ℕ) → MayFollow new rest →
      IsLineHeard arms (reads arms old.more (bytes ++ rest)) line rest new.more result

-- an answer with so many more refused lines before it
abbrev pub refuse : ℕ → Answer Input Halt → Answer Input Halt
refuse zero answer = answer
refuse (suc n) answer = refuse_one (refuse n answer)

-- after n refused lines the input gave what was heard; or a fault
-- came, and an answer is still to be read of what is left
abbrev pub IsHeard : Answer Input Halt → (n : ℕ) → Result Heard PlayFault → Input → Type 0
IsHeard answer n (Ok (heard.Reply place)) left = answer ≡ Reply n place left
IsHeard answer n (Ok (heard.Stop why)) left = answer ≡ Stop (record { refused = n; why = why }) left
IsHeard answer n (Err fault) left =
    (later : Answer Input Halt) × (answer ≡ refuse n later) × EndsWith (left_by later) left.left

-- the place of a reply is that of one of so many moves
abbrev pub IsThere : (many : ℕ) → Heard → Type 0
IsThere many (heard.Reply place) = place < many
IsThere many (heard.Stop why) = ⊤

-- fewer lines may still be read where there is a reply, and else no more than before
abbrev pub LeavesFewer : Result Heard PlayFault → (old new : ℕ) → Type 0
LeavesFewer (Ok (heard.Reply place)) old new = new < old
LeavesFewer result old new = new ≤ old

-- the faults that can stop the hearing: those of the input and of the sink
abbrev pub MayFail : PlayFault → Type 0
MayFail fault = (fault ≡ plays.Input) ⊎ (fault ≡ plays.Line faults.Output)

-- so many lines were refused and these bytes taken; `heard` says so whatever follows these bytes
pub record Hears
    (arms : List (Arm Step ℕ Value)) (old new : Reader) (result : Result Heard PlayFault)
    (source left : SourceTold)
    (out taken : SinkTold) : Type 0 where
  pub refused : ℕ
  pub bytes : List ℕ
  pub wrote : WroteBy result (refused_text refused) out taken
  pub took : TookBytes bytes source left
  pub ended : new.ended ≡ true → HasEnded left
  pub stays : StaysEnded old new bytes
  pub fewer : LeavesFewer result old.more new.more
  pub fails : (fault : PlayFault) → result ≡ Err fault → MayFail fault
  pub heard : (rest : List ℕ) → MayFollow new rest →
      IsHeard (reads arms old.more (bytes ++ rest)) refused result
      (record { left = rest; more = new.more })
