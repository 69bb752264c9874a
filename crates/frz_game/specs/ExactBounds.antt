-- What the bounds of a side that no line forbids a move say of chess, both ways.
use Rattle.std.specs.Prelude.{◌≡◌, ℕ, List, slice_index}
use Rattle.frz_board.specs.declared.man.Colour.{Colour}
use Rattle.frz_board.specs.Boards.{Board}
use Rattle.frz_board.specs.Men.{other_of}
use Rattle.frz_sets.specs.declared.exit.Value.{Value}
use Rattle.frz_sets.specs.Views.{RuleLines}
use Rattle.frz_index.specs.Members.{Member, Num}
use Rattle.frz_arena.specs.declared.bound.Bound.{Bound}
use Rattle.frz_arena.specs.declared.bound.Bound.TheVariants.{Wins, Holds, Fails}
use Rattle.frz_arena.specs.Codes.{code_of}
use Rattle.frz_arena.specs.WholeTruth.{CanForceMate, MatesIn, IsDead, NoneIsBad}
use Rattle.frz_game.specs.ExactTables.{HasNoForbid, AreDecidedOutside, IsLostOutside, HasExactOutcomes, IsExactInChess}
use Rattle.frz_game.specs.Games.{chess, game_of}
use Rattle.frz_game.specs.MenAlone.{IsDrawnOutside}
use Rattle.frz_game.specs.Values.{AreTrueExits}

-- the bound is exact in chess: with a win within n the side forces mate in n plies and no fewer,
-- with a failure its opponent does, and with a hold neither side forces mate
abbrev pub IsExactBound : Colour → Board → Bound → Type 0
IsExactBound side p (Wins n) = MatesIn chess side n p
IsExactBound side p Holds = IsDead chess side p
IsExactBound side p (Fails m) = MatesIn chess (other_of side) m p

-- the outcome of the bound is that of chess, whatever its plies
abbrev pub HasExactOutcome : Colour → Board → Bound → Type 0
HasExactOutcome side p (Wins n) = CanForceMate chess side p
HasExactOutcome side p Holds = IsDead chess side p
HasExactOutcome side p (Fails m) = CanForceMate chess (other_of side) p

-- what the bound of the side at a position says, where no line forbids the side a move
pub record MeansExactly (rules : RuleLines) (value : Board → Value) (side : Colour) (p : Board)
    (b : Bound) : Type 0 where
  -- where each way out of the set is drawn by the men, it is exact
  pub drawn : IsDrawnOutside rules value → IsExactBound side p b
  -- where each value outside truly says who wins or that the game is drawn, its outcome is exact
  pub decided : AreTrueExits rules value → AreDecidedOutside rules value → HasExactOutcome side p b
  -- where the exits are true and no value outside is bad for the opponent, no mate is quicker than
  -- the win
  pub win : AreTrueExits rules value → NoneIsBad (game_of rules value) (other_of side) →
      (n : ℕ) → b ≡ Wins n → MatesIn chess side n p
  -- where the exits are true, and each value outside that is bad for the side is a win of its
  -- opponent, a failure is lost
  pub lost : AreTrueExits rules value → IsLostOutside rules value side →
      (m : ℕ) → b ≡ Fails m → CanForceMate chess (other_of side) p
  -- where the exits are true and no value outside is bad for the side, a failure is lost in just
  -- its plies
  pub lost_in : AreTrueExits rules value → NoneIsBad (game_of rules value) side →
      (m : ℕ) → b ≡ Fails m → MatesIn chess (other_of side) m p

-- what the table of the side says, where no line forbids the side a move
pub record TableMeansExactly (rules : RuleLines) (value : Board → Value) (side : Colour)
    (codes : List ℕ) : Type 0 where
  -- where each way out of the set is drawn by the men, it is exact in chess
  pub drawn : IsDrawnOutside rules value → IsExactInChess rules side codes
  -- where each value outside truly says who wins or that the game is drawn, its outcomes are exact
  pub decided : AreTrueExits rules value → AreDecidedOutside rules value →
      HasExactOutcomes rules side codes
  -- the code at each position of the set says what the bound that it stands for says
  pub bound : (p : Board) (b : Bound) → Member rules.groups p →
      slice_index codes (Num rules.groups p) ≡ code_of b → MeansExactly rules value side p b

-- the bound says what MeansExactly states, where no line forbids the side a move
abbrev pub IsExactWhereFree : RuleLines → (Board → Value) → Colour → Board → Bound → Type 0
IsExactWhereFree rules value side p b = HasNoForbid rules side → MeansExactly rules value side p b

-- the table says what TableMeansExactly states, where no line forbids the side a move
abbrev pub TableIsExactWhereFree : RuleLines → (Board → Value) → Colour → List ℕ → Type 0
TableIsExactWhereFree rules value side codes =
    HasNoForbid rules side → TableMeansExactly rules value side codes
