-- The line of a side in a solved game: its moves, how it ends, and what is written of it.
use Rattle.std.specs.Prelude.{◌≡◌, ◌+◌, ℕ, List, length, Result, Err, ⊤}
use Rattle.frz_board.specs.declared.man.Colour.{Colour}
use Rattle.frz_board.specs.Boards.{Board}
use Rattle.frz_board.specs.Men.{other_of}
use Rattle.frz_sets.specs.declared.exit.Value.{Value}
use Rattle.frz_sets.specs.Views.{RuleLines}
use Rattle.frz_store.specs.Told.{SinkTold}
use Rattle.frz_arena.specs.declared.bound.Bound.{Bound}
use Rattle.frz_arena.specs.declared.bound.Bound.TheVariants.{Wins, Holds, Fails}
use Rattle.frz_arena.specs.declared.class.Class.TheVariants.{Good, Safe}
use Rattle.frz_arena.specs.Codes.{code_of}
use Rattle.frz_arena.specs.WayCases.{Way}
use Rattle.frz_arena.specs.WayEnds.{NoBound, Mated, Stalemated, Exit, Cut}
use Rattle.frz_exits.specs.Books.{value_by}
use Rattle.frz_exits.specs.Values.{class_of, lag_of}
use Rattle.frz_game.specs.Bounds.{IsTableOf}
use Rattle.frz_game.specs.Games.{graph_by}
use Rattle.frz_index.specs.Members.{Num}
use Rattle.frz_ways.specs.declared.end.LineFault.TheVariants.{Output}
use Rattle.frz_ways.specs.declared.end.TheConstants.{LINE_LIMIT}
use Rattle.frz_ways.specs.declared.opponent.Opponent.TheVariants.{Codes}
use Rattle.frz_ways.specs.declared.session_end.PlayFault.{PlayFault}
use Rattle.frz_ways.specs.declared.session_end.PlayFault.TheVariants.{Line}
use Rattle.frz_ways.specs.declared.way_end.Finish.{Finish}
use Rattle.frz_ways.specs.ChessGames.{IsGame, after_plies}
use Rattle.frz_ways.specs.EndsOfGames.{StandsAt}
use Rattle.frz_ways.specs.Reading.{Input}
use Rattle.frz_ways.specs.SessionFaults.{WroteBy}
use Rattle.frz_ways.specs.WayEnds.{ended, told}
use Rattle.frz_ways.specs.WayTexts.{way_text}
use Rattle.frz_ways.specs.Ways.{WayPly, EndOfWay, way_player}

-- how a line of so many plies ends, by the side's bound at its start. From a win within n plies the
-- opponent is mated after just n plies, or an exit wins, with n plies if those of its value are
-- counted. From a hold nobody is mated, and an exit holds. From a failure no line is played
abbrev pub EndsBy : Colour → Bound → (plies : ℕ) → EndOfWay → Type 0
EndsBy side (Wins n) plies (Mated mover) = (mover ≡ other_of side) × (plies ≡ n)
EndsBy side (Wins n) plies (Exit v) = (class_of v side ≡ Good) × (plies + lag_of v ≡ n)
EndsBy side Holds plies (Stalemated mover) = ⊤
EndsBy side Holds plies (Exit v) = class_of v side ≡ Safe
EndsBy side Holds plies Cut = plies ≡ LINE_LIMIT
EndsBy side (Fails m) plies NoBound = plies ≡ 0
EndsBy side bound plies end = ⊥

-- the line is a game of chess from p, in which the side plays no move that it has renounced. It
-- ends as the bound says, and the position behind the plies stands so: the mover is mated there, or
-- stalemated, or the set does not have it and the exit has its value
pub record KeepsBound
    (rules : RuleLines) (side : Colour) (p : Board) (bound : Bound) (plies : List WayPly)
    (end : EndOfWay) : Type 0 where
  pub game : IsGame rules side p plies
  pub ends : EndsBy side bound (length plies) end
  pub stands : StandsAt rules (value_by rules) (after_plies p plies) end

-- the plies and the end are those of the line from p by the side's table. At each position the move
-- is the first that the code there asks for: from a win the first with one ply less, from a hold the
-- first that holds. The line goes on until it is over, and reads nothing of an input
pub record IsLineFrom
    (rules : RuleLines) (side : Colour) (p : Board) (plies : List WayPly)
    (end : EndOfWay) : Type 0 where
  pub codes : List ℕ
  pub table : IsTableOf rules (value_by rules) side codes
  pub input : Input
  pub left : Input
  pub goes_on : Way (way_player (graph_by rules (value_by rules)) Codes side (λ k. codes)) 0 input
      (0, Num rules.groups p) plies end left

-- the answer is the line's end, unless the sink failed
abbrev pub AnswersEnd : Colour → EndOfWay → Result Finish PlayFault → Type 0
AnswersEnd side end (Err (Line Output)) = ⊤
AnswersEnd side end result = ended result ≡ told side end

-- the line from p keeps the bound, and was played and written: the bound, a line for each move, and
-- the end
pub record PlaysLine
    (rules : RuleLines) (side : Colour) (p : Board) (bound : Bound)
    (result : Result Finish PlayFault) (old new : SinkTold) : Type 0 where
  pub plies : List WayPly
  pub end : EndOfWay
  pub line : IsLineFrom rules side p plies end
  pub keeps : KeepsBound rules side p bound plies end
  pub wrote : WroteBy result (way_text Codes side (code_of bound) plies end) old new
  pub answers : AnswersEnd side end result
