-- Values that the men alone show to be true.
use Rattle.std.specs.Prelude.{◌≡◌}
use Rattle.frz_board.specs.declared.man.Colour.{Colour}
use Rattle.frz_board.specs.declared.man.Colour.TheVariants.{White, Black}
use Rattle.frz_board.specs.Boards.{Board}
use Rattle.frz_board.specs.Men.{other_of}
use Rattle.frz_fide.specs.Bare.{IsBare, HasOneMinor}
use Rattle.frz_sets.specs.declared.exit.Value.{Value}
use Rattle.frz_sets.specs.declared.exit.Value.TheVariants.{WhiteWins, BlackWins, Draw, WhiteHolds, BlackHolds, Unknown, WhiteWinsIn, BlackWinsIn}
use Rattle.frz_sets.specs.Views.{RuleLines}
use Rattle.frz_arena.specs.Exits.{IsExit}
use Rattle.frz_game.specs.Games.{game_of}

-- neither side has the men to mate: one has its king alone, and the other beside its king one man
-- at most, a bishop or a knight
pub record HasDeadMen (p : Board) : Type 0 where
  pub side : Colour
  pub bare : IsBare p side
  pub minor : HasOneMinor p (other_of side)

-- a draw where neither side has the men to mate, and a hold against a bare king
abbrev pub IsTrueByMen : Value → Board → Type 0
IsTrueByMen Draw q = HasDeadMen q
IsTrueByMen WhiteHolds q = IsBare q Black
IsTrueByMen BlackHolds q = IsBare q White
IsTrueByMen Unknown q = Unit {0}
IsTrueByMen WhiteWins q = ⊥
IsTrueByMen BlackWins q = ⊥
IsTrueByMen (WhiteWinsIn n) q = ⊥
IsTrueByMen (BlackWinsIn n) q = ⊥

-- the value of each position one legal move outside the set is true by its men
abbrev pub AreTrueByMen : RuleLines → (Board → Value) → Type 0
AreTrueByMen rules value =
    (q : Board) → IsExit (game_of rules value) q → IsTrueByMen (value q) q

-- each legal move out of the set leads to a position of the value draw, where neither side has the
-- men to mate
abbrev pub IsDrawnOutside : RuleLines → (Board → Value) → Type 0
IsDrawnOutside rules value =
    (q : Board) → IsExit (game_of rules value) q → (value q ≡ Draw) × HasDeadMen q
