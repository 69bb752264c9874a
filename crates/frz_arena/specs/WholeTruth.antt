-- When the values outside the set are the whole truth of chess for a side, and what is exact then.
use Rattle.std.specs.Prelude.{◌≡◌, ◌<◌, ◌+◌, ◌↔◌, ℕ, true}
use Rattle.std.specs.List.{Contains}
use Rattle.frz_board.specs.declared.man.Colour.{Colour}
use Rattle.frz_board.specs.Men.{other_of}
use Rattle.frz_arena.specs.declared.class.Class.TheVariants.{Good, Safe, Bad}
use Rattle.frz_arena.specs.declared.bound.Bound.{Bound}
use Rattle.frz_arena.specs.declared.bound.Bound.TheVariants.{Wins, Fails}
use Rattle.frz_arena.specs.Chess.{Chess, ForcesMate, NeverForcesMate}
use Rattle.frz_arena.specs.Exits.{IsExit}
use Rattle.frz_arena.specs.Games.{Game, arena_of}
use Rattle.frz_arena.specs.Plies.{IsGoodExit}

-- the side forces mate
abbrev pub CanForceMate : {P M : Type 0} → Chess P M → Colour → P → Type 0
CanForceMate chess side p = (n : ℕ) × ForcesMate chess side n p

-- the side forces mate within n plies, and within no fewer
pub record MatesIn {P M : Type 0} (chess : Chess P M) (side : Colour) (n : ℕ) (p : P) : Type 0 where
  pub forced : ForcesMate chess side n p
  pub least : (k : ℕ) → k < n → ForcesMate chess side k p → ⊥

-- neither side forces mate
pub record IsDead {P M : Type 0} (chess : Chess P M) (side : Colour) (p : P) : Type 0 where
  pub no_win : NeverForcesMate chess side p
  pub no_loss : NeverForcesMate chess (other_of side) p

-- each legal move of the side at a position of the set is free
abbrev pub MovesFreely : {P M V : Type 0} → Game P M V → Colour → Type 0
MovesFreely {P} {M} game side =
    (p : P) (m : M) → game.member p ≡ true → game.chess.turn p ≡ side →
    Contains (game.chess.moves p) m → game.free p m ≡ true

-- the values by which the side wins just outside the set are true
abbrev pub TrueWins : {P M V : Type 0} → Game P M V → Colour → Type 0
TrueWins {P} game side =
    (q : P) → IsExit game q → game.class (game.value q) side ≡ Good → CanForceMate game.chess side q

-- where the opponent forces mate just outside the set, the value is bad for the side, so that no
-- value says there that it wins or holds
abbrev pub TrueHolds : {P M V : Type 0} → Game P M V → Colour → Type 0
TrueHolds {P} game side =
    (q : P) → IsExit game q → CanForceMate game.chess (other_of side) q
    → game.class (game.value q) side ≡ Bad

-- just outside the set the side wins by the value exactly where it forces mate
abbrev pub WinsAreKnown : {P M V : Type 0} → Game P M V → Colour → Type 0
WinsAreKnown {P} game side =
    (q : P) → IsExit game q →
    (game.class (game.value q) side ≡ Good) ↔ CanForceMate game.chess side q

-- just outside the set the side wins by the value within n plies exactly where it forces mate
-- within n plies, for each n
abbrev pub WinsAreCounted : {P M V : Type 0} → Game P M V → Colour → Type 0
WinsAreCounted {P} game side =
    (q : P) → IsExit game q → (n : ℕ) →
    IsGoodExit (arena_of game) side n (game.value q) ↔ ForcesMate game.chess side n q

-- just outside the set the value is bad for the side exactly where the opponent forces mate
abbrev pub LossesAreKnown : {P M V : Type 0} → Game P M V → Colour → Type 0
LossesAreKnown {P} game side =
    (q : P) → IsExit game q →
    (game.class (game.value q) side ≡ Bad) ↔ CanForceMate game.chess (other_of side) q

-- each value that is bad for the side just outside the set is a true win of its opponent
abbrev pub TrueLosses : {P M V : Type 0} → Game P M V → Colour → Type 0
TrueLosses {P} game side =
    (q : P) → IsExit game q → game.class (game.value q) side ≡ Bad
    → CanForceMate game.chess (other_of side) q

-- each value that is bad for the side just outside the set is a win of its opponent within at most
-- so many plies
abbrev pub LossesWithin : {P M V : Type 0} → Game P M V → Colour → ℕ → Type 0
LossesWithin {P} game side most =
    (q : P) → IsExit game q → game.class (game.value q) side ≡ Bad
    → ForcesMate game.chess (other_of side) most q

-- no value just outside the set is bad for the side
abbrev pub NoneIsBad : {P M V : Type 0} → Game P M V → Colour → Type 0
NoneIsBad {P} game side = (q : P) → IsExit game q → game.class (game.value q) side ≡ Bad → ⊥

-- each value just outside the set decides the game: a hold of one side is one of the other too, and
-- where a side neither wins nor holds the other wins
pub record IsDecided {P M V : Type 0} (game : Game P M V) : Type 0 where
  pub safe : (q : P) → IsExit game q → (side : Colour) →
      game.class (game.value q) side ≡ Safe → game.class (game.value q) (other_of side) ≡ Safe
  pub bad : (q : P) → IsExit game q → (side : Colour) →
      game.class (game.value q) side ≡ Bad → game.class (game.value q) (other_of side) ≡ Good

-- the bound is a win
abbrev pub IsWin : Bound → Type 0
IsWin b = (n : ℕ) × (b ≡ Wins n)

-- the bound is a failure
abbrev pub IsFailure : Bound → Type 0
IsFailure b = (m : ℕ) × (b ≡ Fails m)

-- each value by which the side wins just outside the set is a forced mate, in at most so many plies
-- more than the value says
abbrev pub WinsWithinMore : {P M V : Type 0} → Game P M V → Colour → ℕ → Type 0
WinsWithinMore {P} game side more =
    (q : P) → IsExit game q → game.class (game.value q) side ≡ Good →
    ForcesMate game.chess side (game.lag (game.value q) + more) q
