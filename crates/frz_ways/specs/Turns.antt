-- One turn of a way: what it writes, takes of the input and answers at a number.
use Rattle.std.specs.Prelude.{◌≡◌, ◌⊎◌, ◌==◌, ◌<◌, ◌+◌, ◌*◌, nat_le, ℕ, suc, Bool, true, false, List, [], ◌∷◌, ◌++◌, Result, Ok, Err, Some, slice_get, slice_index, get_or, if◌then◌else◌, codes, ⊤}
use Rattle.frz_board.specs.declared.man.Colour.{Colour}
use Rattle.frz_board.specs.Men.{same_colour}
use Rattle.frz_board.specs.Moving.{Step}
use Rattle.frz_sets.specs.declared.exit.Value.{Value}
use Rattle.frz_store.specs.Told.{SourceTold, SinkTold}
use Rattle.frz_answer.specs.Texts.{TookText, FailedWithin}
use Rattle.frz_arena.specs.declared.arm.Arm.{Arm}
use Rattle.frz_arena.specs.declared.arm.Next.{Next}
use Rattle.frz_arena.specs.declared.arm.Next.TheVariants.{Inside, Outside}
use Rattle.frz_arena.specs.declared.node.Node.{Node}
use Rattle.frz_arena.specs.declared.node.Node.TheVariants.{Going}
use Rattle.frz_arena.specs.declared.choice.Choice.{Choice}
use Rattle.frz_arena.specs.Arena.{Arena}
use Rattle.frz_arena.specs.Chosen.{IsFound}
use Rattle.frz_arena.specs.Choices.{has_code}
use Rattle.frz_arena.specs.Codes.{is_win, is_failure}
use Rattle.frz_arena.specs.LocalCodes.{node_code}
use Rattle.frz_arena.specs.WayEnds.{Exit}
use Rattle.frz_graph.specs.FreeCodes.{free_among}
use Rattle.frz_bound_lines.specs.BoundLines.{kept_line}
use Rattle.frz_ways.specs.declared.due.Due.{Due}
use Rattle.frz_ways.specs.declared.due.Due.TheVariants as dues
use Rattle.frz_ways.specs.declared.end.LineFault.TheVariants as faults
use Rattle.frz_ways.specs.declared.end.TheConstants.{LINE_LIMIT}
use Rattle.frz_ways.specs.declared.hearing.Heard.{Heard}
use Rattle.frz_ways.specs.declared.hearing.Heard.TheVariants as heard
use Rattle.frz_ways.specs.declared.hearing.Why.TheVariants.{Ended, Limit}
use Rattle.frz_ways.specs.declared.hearing.Reader.{Reader}
use Rattle.frz_ways.specs.declared.opponent.Opponent.{Opponent}
use Rattle.frz_ways.specs.declared.opponent.Opponent.TheVariants as opponents
use Rattle.frz_ways.specs.declared.playing.Cursor.{Cursor}
use Rattle.frz_ways.specs.declared.playing.Turn.{Turn}
use Rattle.frz_ways.specs.declared.playing.Turn.TheVariants.{Over, Out, On}
use Rattle.frz_ways.specs.declared.session_end.PlayFault.{PlayFault}
use Rattle.frz_ways.specs.declared.session_end.PlayFault.TheVariants as plays
use Rattle.frz_ways.specs.declared.way_end.WayEnd.TheVariants as ends
use Rattle.frz_ways.specs.Dues.{due_by}
use Rattle.frz_ways.specs.Hearing.{Hears, MayFollow}
use Rattle.frz_ways.specs.Reading.{Input}
use Rattle.frz_ways.specs.SessionTexts.{end_text, start_line}
use Rattle.frz_ways.specs.SeenMoves.{choices_by, IsNextCode}
use Rattle.frz_ways.specs.Texts.{arm_text}
use Rattle.frz_ways.specs.WayEnds.{told, Finishes, IsEndHere, IsFaultOf}
use Rattle.frz_ways.specs.Ways.{WayPly, EndOfWay, GoesOn}
use Rattle.frz_ways.specs.WayTexts.{plies_text}

abbrev pub moved_text : (word : List ℕ) → Arm Step ℕ Value → List ℕ
moved_text word a = word ++ arm_text a

-- the line of the side's bound: before the first ply, and only where the start is not refused
abbrev pub opening : Colour → Cursor → Due → List ℕ
opening side cursor (dues.Wrong given) = []
opening side cursor dues.NoBound = []
opening side cursor due = if cursor.played == 0 then kept_line side cursor.code else []

-- where the move leads, with the code that was read for it
abbrev pub turn_of : Step → Next ℕ Value → (code : ℕ) → Turn
turn_of move (Inside number) code = On number code
turn_of move (Outside v) code = Out move v

-- the text was written and this turn answered, or the sink failed within the text
abbrev pub Answers : Turn → List ℕ → Result Turn PlayFault → SinkTold → SinkTold → Type 0
Answers turn text result old new =
    ((result ≡ Ok turn) × TookText text old new)
    ⊎ ((result ≡ Err (plays.Line faults.Output)) × FailedWithin text old new)

-- the move at this place of the list was played, and written behind this word
abbrev pub PlaysAt : (word : List ℕ) → (place : ℕ) → List (Arm Step ℕ Value) → List ℕ →
    Result Turn PlayFault →
    SinkTold → SinkTold → Type 0
PlaysAt word place arms cs result old new =
    (a : Arm Step ℕ Value) × (slice_get arms place ≡ Some a)
    × Answers (turn_of a.mv a.next (get_or cs place 0)) (moved_text word a) result old new

-- whether the codes find the ply, `own` being whether the side itself moves
abbrev pub by_codes : Opponent → (own : Bool) → Bool
by_codes opponents.Codes own = true
by_codes opponents.Input own = own

-- the word before a move that the codes find: in a line there is none
abbrev pub own_word : Opponent → List ℕ
own_word opponents.Codes = []
own_word opponents.Input = codes "move "

-- the move that the kept code asks for was played
abbrev pub PlaysByCodes : Opponent → (own : Bool) → Cursor → List (Arm Step ℕ Value) → List ℕ →
    Result Turn PlayFault → SinkTold → SinkTold → Type 0
PlaysByCodes opponent own cursor arms cs result old new =
    (place : ℕ) × (x : Choice)
    × IsFound has_code (is_win cursor.code) cursor.code (choices_by own arms cs) place x
    × PlaysAt (own_word opponent) place arms cs result old new

-- what the turn does by what it heard: a move is played, or the end of the input ends the way, or a
-- limit or a fault is answered and nothing written
abbrev pub AfterHeard : List (Arm Step ℕ Value) → List ℕ → Result Heard PlayFault →
    Result Turn PlayFault → SinkTold →
    SinkTold → Type 0
AfterHeard arms cs (Ok (heard.Reply place)) result old new =
    PlaysAt (codes "reply ") place arms cs result old new
AfterHeard arms cs (Ok (heard.Stop Ended)) result old new =
    Answers (Over ends.InputEnded) (codes "input ended\n") result old new
AfterHeard arms cs (Ok (heard.Stop (Limit limit))) result old new =
    (result ≡ Err (plays.Limit limit)) × (new ≡ old)
AfterHeard arms cs (Err fault) result old new = (result ≡ Err fault) × (new ≡ old)

-- the opponent's reply was heard from the input and played
pub record PlaysReply
    (arms : List (Arm Step ℕ Value)) (cs : List ℕ) (old new : Reader)
    (result : Result Turn PlayFault)
    (source left : SourceTold) (out taken : SinkTold) : Type 0 where
  pub heard : Result Heard PlayFault
  pub between : SinkTold
  pub hears : Hears arms old new heard source left out between
  pub after : AfterHeard arms cs heard result between taken

-- nothing was read of the input
abbrev pub Unread : Reader → Reader → SourceTold → SourceTold → Type 0
Unread old new source left = (new ≡ old) × (left ≡ source)

-- the ply was played: one that the codes find, or one that the input says
abbrev pub PlaysPly : (found : Bool) → Opponent → (own : Bool) → Cursor → List (Arm Step ℕ Value) →
    List ℕ → Reader → Reader → Result Turn PlayFault → SourceTold → SourceTold → SinkTold → SinkTold
    → Type 0
PlaysPly true opponent own cursor arms cs old new result source left out taken =
    Unread old new source left × PlaysByCodes opponent own cursor arms cs result out taken
PlaysPly false opponent own cursor arms cs old new result source left out taken =
    PlaysReply arms cs old new result source left out taken

-- nothing was written, and this fault was answered
abbrev pub Stops : PlayFault → Result Turn PlayFault → SinkTold → SinkTold → Type 0
Stops fault result old new = (result ≡ Err fault) × (new ≡ old)

-- the fault where the kept code of the cursor is not the local code, which is `given`
abbrev pub wrong_at : Colour → Cursor → (given : ℕ) → PlayFault
wrong_at side cursor given =
    plays.Line (faults.Wrong
    (record { side = side; number = cursor.number; kept = cursor.code; given = given }))

-- the turn played the ply that is due, or ended the way, with these moves and their codes
abbrev pub IsPlayed : Opponent → Colour → Cursor → Due → List (Arm Step ℕ Value) → List ℕ → Reader →
    Reader → Result Turn PlayFault → SourceTold → SourceTold → SinkTold → SinkTold → Type 0
IsPlayed opponent side cursor (dues.Wrong given) arms cs old new result source left out taken =
    Unread old new source left
    × Stops (wrong_at side cursor given) result out taken
IsPlayed opponent side cursor dues.NoBound arms cs old new result source left out taken =
    Unread old new source left × Stops (plays.Line faults.NoBound) result out taken
IsPlayed opponent side cursor (dues.Mate mover) arms cs old new result source left out taken =
    Unread old new source left × Answers (Over ends.Mate) (codes "mate\n") result out taken
IsPlayed opponent side cursor (dues.Stalemate mover) arms cs old new result source left out taken =
    Unread old new source left × Answers (Over ends.Stalemate) (codes "stalemate\n") result out
    taken
IsPlayed opponent side cursor dues.Cut arms cs old new result source left out taken =
    Unread old new source left × Answers (Over ends.Cut) (codes "cut\n") result out taken
IsPlayed opponent side cursor (dues.Ply mover) arms cs old new result source left out taken =
    PlaysPly (by_codes opponent (same_colour mover side)) opponent (same_colour mover side) cursor
    arms cs old new result source left out taken

-- where a ply is due, there is a move that the kept code asks for
abbrev pub HasMove : Colour → Cursor → Due → List (Arm Step ℕ Value) → List ℕ → Type 0
HasMove side cursor (dues.Ply mover) arms cs =
    (i : ℕ) × (x : Choice)
    × IsFound has_code (is_win cursor.code) cursor.code (choices_by (same_colour mover side) arms cs) i
    x
HasMove side cursor due arms cs = ⊤

-- 1 where the side itself is to move, and else 0
abbrev pub own_turn : Colour → Node → ℕ
own_turn side (Going mover) = if same_colour mover side then 1 else 0
own_turn side node = 0

-- a bound on the plies that a session may still play: two for each line that may be read, and one
-- where the side itself is to move
abbrev pub session_left : Arena Step ℕ Value → Colour → (more number : ℕ) → ℕ
session_left arena side more number = 2 * more + own_turn side (arena.node number)

-- whether a hold is cut after so many plies: only in a line
abbrev pub late_by : Opponent → (played : ℕ) → Bool
late_by opponents.Codes played = nat_le LINE_LIMIT played
late_by opponents.Input played = false

-- what is due at the cursor, by the moves there and their codes
abbrev pub due_at : Arena Step ℕ Value → Opponent → Colour → Cursor → List (Arm Step ℕ Value)
    → List ℕ → Due
due_at arena opponent side cursor arms cs =
    due_by (cursor.played == 0) (late_by opponent cursor.played) cursor.code
    (node_code side (arena.node cursor.number) (free_among arms cs) cs) (arena.node cursor.number)

-- a ply leaves less to do, so that the way ends: in a line the next code is the one that the kept
-- code asks for, and no hold is played beyond LINE_LIMIT; in a session fewer lines are left, or the
-- side has made its move
abbrev pub LeavesLess : Opponent → Arena Step ℕ Value → Colour → Cursor → (old new : Reader)
    → (number code : ℕ) → Type 0
LeavesLess opponents.Codes arena side cursor old new number code =
    IsNextCode cursor.code code × (cursor.code ≡ 1 → cursor.played < LINE_LIMIT)
LeavesLess opponents.Input arena side cursor old new number code =
    session_left arena side new.more number < session_left arena side old.more cursor.number

-- a turn that goes on leads to a number of the set whose code is no failure, and leaves less to do
abbrev pub TurnsTo : Arena Step ℕ Value → (size : ℕ) → Opponent → Colour → Cursor → Reader → Reader
    → Turn → Type 0
TurnsTo arena size opponent side cursor old new (Over end) = ⊤
TurnsTo arena size opponent side cursor old new (Out move v) = ⊤
TurnsTo arena size opponent side cursor old new (On number code) =
    (number < size) × (is_failure code ≡ false)
    × LeavesLess opponent arena side cursor old new number code

-- the turn's answer is one that a way against this opponent can give
abbrev pub IsTurnOf : Result Turn PlayFault → Opponent → Type 0
IsTurnOf (Ok (Over end)) opponent = IsEndHere end opponent
IsTurnOf (Ok (Out move v)) opponent = ⊤
IsTurnOf (Ok (On number code)) opponent = ⊤
IsTurnOf (Err fault) opponent = IsFaultOf fault opponent

-- the text that a way has still to write at a cursor
abbrev pub rest_text : Opponent → Colour → Cursor → List WayPly → EndOfWay → List ℕ
rest_text opponent side cursor plies end =
    (if cursor.played == 0 then start_line side cursor.code plies end else [])
    ++ (plies_text opponent side plies ++ end_text end)

-- the way has one ply more, which is this move from the cursor, and ends outside with this value
abbrev pub LeavesSet : Cursor → (here : Input) → Step → Value → List WayPly → EndOfWay →
    (last : Input) → Type 0
LeavesSet cursor here move v plies end last =
    (end ≡ Exit v) × (last ≡ here)
    × ((x : WayPly) × (plies ≡ x ∷ []) × (x.from ≡ (cursor.played, cursor.number))
    × (x.arm.mv ≡ move))

-- how a turn leaves a way: the way goes on behind its first ply, which leads to this number, or it
-- has finished, within its set or by a ply that leaves it
abbrev pub Leaves : Arena Step ℕ Value → Opponent → Colour → (ℕ → List ℕ) → Cursor → Input →
    List WayPly → EndOfWay → (last : Input) → (rest : List ℕ) → Result Turn PlayFault → Type 0
Leaves arena opponent side kept cursor left plies end last rest (Ok (On number code)) =
    (slice_index (kept (suc cursor.played)) number ≡ code)
    × ((first : WayPly) × (others : List WayPly) × (plies ≡ first ∷ others)
    × (first.arm.next ≡ Inside (suc cursor.played, number))
    × GoesOn arena opponent side kept (suc cursor.played) left number others end last
    × (rest ≡ plies_text opponent side others ++ end_text end))
Leaves arena opponent side kept cursor left plies end last rest (Ok (Over answer)) =
    (unread : List ℕ) × (unread ++ last.left ≡ left.left)
    × Finishes (Ok answer) (told side end) rest unread
Leaves arena opponent side kept cursor left plies end last rest (Ok (Out move v)) =
    (rest ≡ []) × LeavesSet cursor left move v plies end last
Leaves arena opponent side kept cursor left plies end last rest (Err fault) =
    (unread : List ℕ) × (unread ++ last.left ≡ left.left)
    × Finishes (Err fault) (told side end) rest unread

-- each way that goes on from the cursor begins with what the turn wrote and took, and goes on as the
-- turn's answer says
abbrev pub GoesBy : Arena Step ℕ Value → Opponent → Colour → (ℕ → List ℕ) → Cursor →
    (old new : Reader) → (bytes text : List ℕ) → Result Turn PlayFault → Type 0
GoesBy arena opponent side kept cursor old new bytes text result =
    slice_index (kept cursor.played) cursor.number ≡ cursor.code →
    (left : List ℕ) → MayFollow new left →
    (plies : List WayPly) (end : EndOfWay) (last : Input) →
    GoesOn arena opponent side kept cursor.played (record { left = bytes ++ left; more = old.more })
    cursor.number plies end last →
    (rest : List ℕ) × (text ++ rest ≡ rest_text opponent side cursor plies end)
    × Leaves arena opponent side kept cursor (record { left = left; more = new.more }) plies end last
    rest result
