-- A way as a journey shows it: a line from a hold ends where a number comes again.
use Rattle.std.specs.Prelude.{◌≡◌, ◌≤◌, ◌+◌, ◌==◌, ℕ, zero, suc, Bool, true, false, List, ◌++◌, length, take, slice_index, if◌then◌else◌, Option, None, Some, Result, codes}
use Rattle.std.specs.List.{list_any}
use Rattle.frz_board.specs.declared.man.Colour.{Colour}
use Rattle.frz_board.specs.Moving.{Step}
use Rattle.frz_sets.specs.declared.exit.Value.{Value}
use Rattle.frz_arena.specs.declared.arm.Next.TheVariants.{Inside}
use Rattle.frz_arena.specs.Arena.{Arena}
use Rattle.frz_bound_lines.specs.BoundLines.{kept_line}
use Rattle.frz_ways.specs.declared.hearing.Reader.{Reader}
use Rattle.frz_ways.specs.declared.opponent.Opponent.{Opponent}
use Rattle.frz_ways.specs.declared.opponent.Opponent.TheVariants as opponents
use Rattle.frz_ways.specs.declared.session_end.PlayFault.{PlayFault}
use Rattle.frz_ways.specs.declared.way_end.Finish.{Finish}
use Rattle.frz_ways.specs.declared.way_end.WayEnd.{WayEnd}
use Rattle.frz_ways.specs.Costs.{way_numbers}
use Rattle.frz_ways.specs.Hearing.{MayFollow}
use Rattle.frz_ways.specs.PlayWay.{LeftBy}
use Rattle.frz_ways.specs.Reading.{Input}
use Rattle.frz_ways.specs.WayEnds.{ended, told, Finishes}
use Rattle.frz_ways.specs.Ways.{WayPly, EndOfWay, GoesOn}
use Rattle.frz_ways.specs.WayTexts.{plies_text, way_text}

-- the number at place k stands at an earlier place too
abbrev pub comes_again : List ℕ → (k : ℕ) → Bool
comes_again numbers k = list_any (λ n. n == slice_index numbers k) (take k numbers)

-- the first of these, or else this place if the test is passed there
abbrev pub or_at : Option ℕ → (passes : Bool) → ℕ → Option ℕ
or_at (Some k) passes n = Some k
or_at None true n = Some n
or_at None false n = None

-- the least number below `most` that passes the test
unfoldable pub least_below : (test : ℕ → Bool) → (most : ℕ) → Option ℕ
least_below test zero = None
least_below test (suc n) = or_at (least_below test n) (test n) n

-- the first place whose number stands at an earlier place too
abbrev pub first_again : List ℕ → Option ℕ
first_again numbers = least_below (comes_again numbers) (length numbers)

-- the text of a line from a hold, by the first place whose number came before: the plies that lead
-- there, and no end
abbrev pub held_text : Colour → List WayPly → EndOfWay → (again : Option ℕ) → List ℕ
held_text side plies end None = way_text opponents.Codes side 1 plies end
held_text side plies end (Some k) =
    kept_line side 1 ++ (plies_text opponents.Codes side (take k plies) ++ codes "repetition\n")

-- what is shown of a way from the number with this kept code
abbrev pub shown_text : Opponent → Colour → (code start : ℕ) → List WayPly → EndOfWay → List ℕ
shown_text opponents.Input side code start plies end =
    way_text opponents.Input side code plies end
shown_text opponents.Codes side code start plies end =
    if code == 1 then held_text side plies end (first_again (way_numbers (Inside (0, start)) plies))
    else way_text opponents.Codes side code plies end

-- how much of a way was played: what is shown of it begins with what was written, and what it takes
-- of the input begins with what was taken. Where the way was shown to its end, both are complete
pub record WayShown
    (opponent : Opponent) (side : Colour) (code start : ℕ) (input bytes text : List ℕ)
    (result : Result WayEnd PlayFault)
    (plies : List WayPly) (end : EndOfWay) (left : Input) : Type 0 where
  pub rest : List ℕ
  pub unread : List ℕ
  pub begins : text ++ rest ≡ shown_text opponent side code start plies end
  pub takes : bytes ++ (unread ++ left.left) ≡ input
  pub finishes : Finishes result (told side end) rest unread

-- each way from the start by these codes that takes its input from where the reader was begins, as
-- it is shown, with this text and these bytes, and is played so far in one step a number at most.
-- Behind the bytes stands what may follow
abbrev pub PlaysShown : Arena Step ℕ Value → Opponent → Colour → (codes : List ℕ) → (start : ℕ) →
    (old new : Reader) → (bytes text : List ℕ) → Result Finish PlayFault → (before now : ℕ) → Type 0
PlaysShown arena opponent side codes start old new bytes text result before now =
    (left : List ℕ) → MayFollow new left →
    (plies : List WayPly) (end : EndOfWay) (last : Input) →
    GoesOn arena opponent side (λ k. codes) 0 (record { left = bytes ++ left; more = old.more })
    start plies end last →
    WayShown opponent side (slice_index codes start) start (bytes ++ left) bytes text (ended result)
    plies end last
    × (now ≤ before + length (way_numbers (Inside (0, start)) plies))
    × LeftBy result (record { left = left; more = new.more }) plies end last
