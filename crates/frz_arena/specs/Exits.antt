-- When the values outside the set are true in chess.
use Rattle.std.specs.Prelude.{◌≡◌, ℕ, true, false}
use Rattle.std.specs.List.{Contains}
use Rattle.frz_board.specs.declared.man.Colour.{Colour}
use Rattle.frz_board.specs.Men.{other_of}
use Rattle.frz_arena.specs.declared.class.Class.TheVariants.{Good, Safe}
use Rattle.frz_arena.specs.Chess.{ForcesMate, NeverForcesMate}
use Rattle.frz_arena.specs.Games.{Game}

-- q is an exit: it is outside the set, and one legal move leads from the set to it
pub record IsExit {P M V : Type 0} (game : Game P M V) (q : P) : Type 0 where
  pub from : P
  pub move : M
  pub begins : game.member from ≡ true
  pub legal : Contains (game.chess.moves from) move
  pub ends : game.chess.play from move ≡ q
  pub outside : game.member q ≡ false

-- the value v is true at q: who wins by it forces mate, within its lag where it gives a number of
-- plies, and who holds by it is never mated by force
pub record IsTrueAt {P M V : Type 0} (game : Game P M V) (v : V) (q : P) : Type 0 where
  pub wins : (side : Colour) → game.class v side ≡ Good → game.numbered v ≡ false →
      (n : ℕ) × ForcesMate game.chess side n q
  pub wins_in : (side : Colour) → game.class v side ≡ Good → game.numbered v ≡ true →
      ForcesMate game.chess side (game.lag v) q
  pub holds : (side : Colour) → game.class v side ≡ Safe →
      NeverForcesMate game.chess (other_of side) q

-- the value of each exit is true at it
abbrev pub TrueExits : {P M V : Type 0} → Game P M V → Type 0
TrueExits {P} game = (q : P) → IsExit game q → IsTrueAt game (game.value q) q

-- each value by which the side wins just outside the set gives a number of plies
abbrev pub AllNumbered : {P M V : Type 0} → Game P M V → Colour → Type 0
AllNumbered {P} game side =
    (q : P) → IsExit game q → game.class (game.value q) side ≡ Good
    → game.numbered (game.value q) ≡ true
