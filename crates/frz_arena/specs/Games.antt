-- A restricted game over chess, and its arena.
use Rattle.std.specs.Prelude.{ℕ, Bool, true, false, List, [], ◌∷◌, map, Option, Some, None}
use Rattle.frz_board.specs.declared.man.Colour.{Colour}
use Rattle.frz_arena.specs.declared.class.Class.{Class}
use Rattle.frz_arena.specs.declared.class.Class.TheVariants.{Good, Safe, Bad}
use Rattle.frz_arena.specs.declared.node.Node.{Node}
use Rattle.frz_arena.specs.declared.node.Node.TheVariants.{Broken, Mate, Stalemate, Going}
use Rattle.frz_arena.specs.declared.arm.Arm.{Arm}
use Rattle.frz_arena.specs.declared.arm.Next.{Next}
use Rattle.frz_arena.specs.declared.arm.Next.TheVariants.{Inside, Outside}
use Rattle.frz_arena.specs.Arena.{Arena}
use Rattle.frz_arena.specs.Chess.{Chess}

-- a restricted game: chess, the set (member), the free moves, and the value of each position
-- outside. What a value is worth to a side is its class; lag is its number of plies to mate, where
-- numbered says that it gives one
pub record Game (P M V : Type 0) : Type 0 where
  pub chess : Chess P M
  pub member : P → Bool
  pub free : P → M → Bool
  pub value : P → V
  pub class : V → Colour → Class
  pub lag : V → ℕ
  pub numbered : V → Bool

-- a position outside the set is broken; in it, the moves, the check and the turn say what it is
abbrev pub node_by : {M : Type 0} → (member : Bool) → List M → (check : Bool) → Colour → Node
node_by false ms check turn = Broken
node_by true (m ∷ ms) check turn = Going turn
node_by true [] true turn = Mate turn
node_by true [] false turn = Stalemate turn

-- where a move to q leads: inside, to a position of the set, or outside, to its value
abbrev pub next_by : {P V : Type 0} → (member : Bool) → P → V → Next P V
next_by true q v = Inside q
next_by false q v = Outside v

-- the arm of a legal move
abbrev pub arm_of : {P M V : Type 0} → Game P M V → P → M → Arm M P V
arm_of game p m =
    let q = game.chess.play p m in
    record { mv = m; free = game.free p m; next = next_by (game.member q) q (game.value q) }

-- the restricted game as an arena: one arm for each legal move, in the order of the moves
abbrev pub arena_of : {P M V : Type 0} → Game P M V → Arena M P V
arena_of game = record {
  node =
      λ p. node_by (game.member p) (game.chess.moves p) (game.chess.in_check p) (game.chess.turn p);
  arms = λ p. map (arm_of game p) (game.chess.moves p);
  class = game.class;
  lag = game.lag;
}

-- a position outside the set is a goal where its value is good, with the lag of the value
abbrev pub goal_by : (member : Bool) → Class → (lag : ℕ) → Option ℕ
goal_by true class lag = None
goal_by false Good lag = Some lag
goal_by false Safe lag = None
goal_by false Bad lag = None

-- the goals of a side: the positions outside the set whose value is good for it, with their lags.
-- Each such position is a goal, and not only an exit: also one that lies beyond an exit whose value
-- is not good for the side, as an unknown one
abbrev pub goals_of : {P M V : Type 0} → Game P M V → Colour → P → Option ℕ
goals_of game side q =
    goal_by (game.member q) (game.class (game.value q) side) (game.lag (game.value q))
