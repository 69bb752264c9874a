-- What a side's way from a number, or from a position of a set, writes and takes of the input.
use Rattle.std.specs.Prelude.{◌≡◌, ℕ, List, [], ◌∷◌, ◌++◌, Result, Ok, slice_index, ⊤}
use Rattle.frz_board.specs.declared.man.Colour.{Colour}
use Rattle.frz_board.specs.Boards.{Board}
use Rattle.frz_board.specs.Moving.{Step}
use Rattle.frz_sets.specs.declared.exit.Value.{Value}
use Rattle.frz_sets.specs.Views.{RuleLines}
use Rattle.frz_answer.specs.World.{Spent}
use Rattle.frz_arena.specs.declared.arm.Next.TheVariants.{Inside}
use Rattle.frz_arena.specs.Arena.{Arena}
use Rattle.frz_arena.specs.WayEnds.{Exit}
use Rattle.frz_exits.specs.Books.{value_by}
use Rattle.frz_game.specs.Games.{graph_by}
use Rattle.frz_index.specs.Members.{Member, Num}
use Rattle.frz_ways.specs.declared.opponent.Opponent.{Opponent}
use Rattle.frz_ways.specs.declared.session_end.PlayFault.{PlayFault}
use Rattle.frz_ways.specs.declared.hearing.Reader.{Reader}
use Rattle.frz_ways.specs.declared.way_end.Finish.{Finish}
use Rattle.frz_ways.specs.declared.way_end.Finish.TheVariants.{Left}
use Rattle.frz_ways.specs.declared.way_end.WayEnd.{WayEnd}
use Rattle.frz_ways.specs.Costs.{way_numbers, SpendsAt}
use Rattle.frz_ways.specs.Hearing.{MayFollow}
use Rattle.frz_ways.specs.Reading.{Input, opened}
use Rattle.frz_ways.specs.WayEnds.{ended, told, Finishes}
use Rattle.frz_ways.specs.Ways.{WayPly, EndOfWay, GoesOn}
use Rattle.frz_ways.specs.WayTexts.{way_text}

-- how much of a way was played: its text begins with what was written, and what it takes of the
-- input begins with what was taken. Where the way came to an end of its own, both are complete
pub record WayPlayed
    (opponent : Opponent) (side : Colour) (code : ℕ) (input bytes text : List ℕ)
    (result : Result WayEnd PlayFault)
    (plies : List WayPly) (end : EndOfWay) (left : Input) : Type 0 where
  pub rest : List ℕ
  pub unread : List ℕ
  pub begins : text ++ rest ≡ way_text opponent side code plies end
  pub takes : bytes ++ (unread ++ left.left) ≡ input
  pub finishes : Finishes result (told side end) rest unread

-- a way that left its set did so by its last ply, which is this move from this number, and leaves
-- this of the input
abbrev pub LeftBy : Result Finish PlayFault → (here : Input) → List WayPly → EndOfWay →
    (last : Input) → Type 0
LeftBy (Ok (Left number move v)) here plies end last =
    (end ≡ Exit v) × (last ≡ here)
    × ((front : List WayPly) × (x : WayPly) × (plies ≡ front ++ x ∷ []) × (x.from.1 ≡ number)
    × (x.arm.mv ≡ move))
LeftBy result here plies end last = ⊤

-- each way from the start that takes its input from where the reader was begins with this text and
-- these bytes, and is played so far within these costs. Behind the bytes stands what may follow
abbrev pub Plays : Arena Step ℕ Value → Opponent → Colour → (ℕ → List ℕ) → (start code : ℕ) →
    (old new : Reader) → (bytes text : List ℕ) → Result Finish PlayFault → (before now : Spent) →
    Type 0
Plays arena opponent side kept start code old new bytes text result before now =
    slice_index (kept 0) start ≡ code → (left : List ℕ) → MayFollow new left →
    (plies : List WayPly) (end : EndOfWay) (last : Input) →
    GoesOn arena opponent side kept 0 (record { left = bytes ++ left; more = old.more }) start plies
    end last →
    WayPlayed opponent side code (bytes ++ left) bytes text (ended result) plies end last
    × SpendsAt arena 0 (way_numbers (Inside (0, start)) plies) before now
    × LeftBy result (record { left = left; more = new.more }) plies end last

-- the text and the bytes are those of the way from the position's number against this input, as far
-- as it was played, and within its costs
abbrev pub TellsWay : Opponent → RuleLines → Colour → (codes : ℕ → List ℕ) → Board →
    (input bytes text : List ℕ) → Result WayEnd PlayFault → (before now : Spent) → Type 0
TellsWay opponent rules side codes p input bytes text result before now =
    Member rules.groups p →
    (plies : List WayPly) (end : EndOfWay) (left : Input) →
    GoesOn (graph_by rules (value_by rules)) opponent side codes 0 (opened input)
    (Num rules.groups p) plies end left →
    WayPlayed opponent side (slice_index (codes 0) (Num rules.groups p)) input bytes text result
    plies end left
    × SpendsAt (graph_by rules (value_by rules)) 1
    (way_numbers (Inside (0, Num rules.groups p)) plies)
    before now
