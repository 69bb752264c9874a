-- Two restricted games over the same chess.
use Rattle.std.specs.Prelude.{◌≡◌, ◌≤◌, true, false, ⊤}
use Rattle.std.specs.List.{Contains}
use Rattle.frz_board.specs.declared.man.Colour.{Colour}
use Rattle.frz_arena.specs.declared.class.Class.TheVariants.{Good, Bad}
use Rattle.frz_arena.specs.declared.bound.Bound.{Bound}
use Rattle.frz_arena.specs.declared.bound.Bound.TheVariants.{Wins, Holds, Fails}
use Rattle.frz_arena.specs.Exits.{IsExit}
use Rattle.frz_arena.specs.Games.{Game}

-- the second game is no worse for the side than the first. Its set has each position of the first
-- set. Each move of the side that is free in the first game is free in it. A position just outside
-- the first set that only the second set has is bad for the side in the first game. At the other
-- positions just outside the first set, a value by which the side wins in the first game wins for
-- it in the second, in no more plies, and a value that is bad for it in the second game is bad in
-- the first
pub record IsNoWorse {P M V W : Type 0} (first : Game P M V) (second : Game P M W)
    (side : Colour) : Type 0 where
  pub member : (p : P) → first.member p ≡ true → second.member p ≡ true
  pub free : (p : P) (m : M) → first.member p ≡ true → first.chess.turn p ≡ side →
      Contains (first.chess.moves p) m → first.free p m ≡ true → second.free p m ≡ true
  pub larger : (q : P) → IsExit first q → second.member q ≡ true →
      first.class (first.value q) side ≡ Bad
  pub good : (q : P) → IsExit first q → second.member q ≡ false →
      first.class (first.value q) side ≡ Good →
      (second.class (second.value q) side ≡ Good)
      × (second.lag (second.value q) ≤ first.lag (first.value q))
  pub bad : (q : P) → IsExit first q → second.member q ≡ false →
      second.class (second.value q) side ≡ Bad → first.class (first.value q) side ≡ Bad

-- the second bound is at least as good as the first: a win stays a win of at most as many plies, a
-- hold stays a hold or becomes a win, and a failure that stays one is no quicker
abbrev pub IsAtLeast : Bound → Bound → Type 0
IsAtLeast (Wins n) (Wins m) = m ≤ n
IsAtLeast (Wins n) Holds = ⊥
IsAtLeast (Wins n) (Fails m) = ⊥
IsAtLeast Holds (Wins m) = ⊤
IsAtLeast Holds Holds = ⊤
IsAtLeast Holds (Fails m) = ⊥
IsAtLeast (Fails n) (Wins m) = ⊤
IsAtLeast (Fails n) Holds = ⊤
IsAtLeast (Fails n) (Fails m) = n ≤ m
