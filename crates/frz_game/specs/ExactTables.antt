-- Tables that are exact in chess.
use Rattle.std.specs.Prelude.{◌≡◌, ◌≤◌, ◌↔◌, ℕ, Bool, true, false, List, slice_index}
use Rattle.std.specs.List.{list_any}
use Rattle.frz_board.specs.declared.man.Colour.{Colour}
use Rattle.frz_board.specs.Boards.{Board}
use Rattle.frz_board.specs.Men.{other_of, same_colour}
use Rattle.frz_sets.specs.declared.exit.Value.{Value}
use Rattle.frz_sets.specs.declared.exit.Value.TheVariants.{WhiteWins, BlackWins, Draw, WhiteHolds, BlackHolds, Unknown, WhiteWinsIn, BlackWinsIn}
use Rattle.frz_sets.specs.Views.{RuleLines}
use Rattle.frz_index.specs.Members.{Member, Num}
use Rattle.frz_arena.specs.declared.class.Class.TheVariants.{Good, Bad}
use Rattle.frz_arena.specs.declared.bound.Bound.TheVariants.{Wins, Holds, Fails}
use Rattle.frz_arena.specs.Codes.{code_of, is_win, is_failure}
use Rattle.frz_arena.specs.Chess.{ForcesMate}
use Rattle.frz_arena.specs.WholeTruth.{CanForceMate, MatesIn, IsDead}
use Rattle.frz_arena.specs.Exits.{IsExit}
use Rattle.frz_graph.specs.Values.{class_of}
use Rattle.frz_game.specs.Games.{chess, game_of}

-- the rules forbid the side no move
abbrev pub HasNoForbid : RuleLines → Colour → Type 0
HasNoForbid rules side = list_any (λ line. same_colour line.colour side) rules.forbids ≡ false

-- the value says who wins, or that the game is drawn
abbrev pub is_decided : Value → Bool
is_decided WhiteWins = true
is_decided BlackWins = true
is_decided (WhiteWinsIn n) = true
is_decided (BlackWinsIn n) = true
is_decided Draw = true
is_decided WhiteHolds = false
is_decided BlackHolds = false
is_decided Unknown = false

-- the value of each position one legal move outside the set says who wins, or that the game is
-- drawn
abbrev pub AreDecidedOutside : RuleLines → (Board → Value) → Type 0
AreDecidedOutside rules value =
    (q : Board) → IsExit (game_of rules value) q → is_decided (value q) ≡ true

-- each value that is bad for the side one legal move outside the set is a win of its opponent
abbrev pub IsLostOutside : RuleLines → (Board → Value) → Colour → Type 0
IsLostOutside rules value side =
    (q : Board) → IsExit (game_of rules value) q → class_of (value q) side ≡ Bad →
    class_of (value q) (other_of side) ≡ Good

-- the outcomes of the table are those of chess: the code of a position is a win exactly where the
-- side forces mate, a failure exactly where its opponent does, a hold exactly where neither does
pub record HasExactOutcomes (rules : RuleLines) (side : Colour) (codes : List ℕ) : Type 0 where
  pub win : (p : Board) → Member rules.groups p →
      (is_win (slice_index codes (Num rules.groups p)) ≡ true) ↔ CanForceMate chess side p
  pub failure : (p : Board) → Member rules.groups p →
      (is_failure (slice_index codes (Num rules.groups p)) ≡ true)
      ↔ CanForceMate chess (other_of side) p
  pub hold : (p : Board) → Member rules.groups p →
      (slice_index codes (Num rules.groups p) ≡ code_of Holds) ↔ IsDead chess side p

-- the table is exact in chess: a win or a failure of n plies stands exactly where the winner forces
-- mate in n plies and no fewer, and a hold exactly where neither side forces mate
pub record IsExactInChess (rules : RuleLines) (side : Colour) (codes : List ℕ) : Type 0 where
  pub win : (p : Board) (n : ℕ) → Member rules.groups p →
      (slice_index codes (Num rules.groups p) ≡ code_of (Wins n)) ↔ MatesIn chess side n p
  pub failure : (p : Board) (n : ℕ) → Member rules.groups p →
      (slice_index codes (Num rules.groups p) ≡ code_of (Fails n))
      ↔ MatesIn chess (other_of side) n p
  pub hold : (p : Board) → Member rules.groups p →
      (slice_index codes (Num rules.groups p) ≡ code_of Holds) ↔ IsDead chess side p

-- no win of the table takes more plies than this
abbrev pub HasWinsUpTo : List ℕ → ℕ → Type 0
HasWinsUpTo codes n =
    (i : ℕ) → is_win (slice_index codes i) ≡ true → slice_index codes i ≤ code_of (Wins n)

-- the longest mate of the side in the set: at some position it takes n plies and no fewer, and
-- wherever the side forces mate it does so within n
pub record IsLongestMate (rules : RuleLines) (side : Colour) (n : ℕ) : Type 0 where
  pub reached : (p : Board) × Member rules.groups p × MatesIn chess side n p
  pub longest : (p : Board) → Member rules.groups p → CanForceMate chess side p →
      ForcesMate chess side n p
