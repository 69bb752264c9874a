-- What the bounds of a side say of chess, and the codes that stand for them in a table.
use Rattle.std.specs.Prelude.{◌≡◌, ◌≤◌, ◌<◌, ℕ, List, slice_index, ⊤}
use Rattle.frz_board.specs.declared.man.Colour.{Colour}
use Rattle.frz_board.specs.Boards.{Board}
use Rattle.frz_board.specs.Men.{other_of}
use Rattle.frz_sets.specs.declared.exit.Value.{Value}
use Rattle.frz_sets.specs.Sets.{size_of}
use Rattle.frz_sets.specs.Views.{RuleLines}
use Rattle.frz_index.specs.Members.{Member, Num, Broken}
use Rattle.frz_arena.specs.declared.bound.Bound.{Bound}
use Rattle.frz_arena.specs.declared.bound.Bound.TheVariants.{Wins, Holds, Fails}
use Rattle.frz_arena.specs.Chess.{ForcesMate, NeverForcesMate}
use Rattle.frz_arena.specs.Codes.{code_of}
use Rattle.frz_arena.specs.Exits.{AllNumbered}
use Rattle.frz_game.specs.Bounds.{ForcesWin}
use Rattle.frz_game.specs.Games.{chess, game_of}
use Rattle.frz_game.specs.Values.{AreTrueExits}

-- a win of the side within n plies
pub record MeansWin (rules : RuleLines) (value : Board → Value) (side : Colour) (n : ℕ)
    (p : Board) : Type 0 where
  -- within n plies the side forces mate, or a position outside the set whose value is a win for it,
  -- against every legal reply; such a position may lie beyond an exit of another value
  pub forced : ForcesWin rules value side n p
  -- it forces mate, where the exits are true
  pub mate : AreTrueExits rules value → (k : ℕ) × ForcesMate chess side k p
  -- it forces mate within n plies, where besides each value by which it wins names its plies
  pub within : AreTrueExits rules value → AllNumbered (game_of rules value) side
      → ForcesMate chess side n p
  -- the opponent forces no mate, where the exits are true
  pub safe : AreTrueExits rules value → NeverForcesMate chess (other_of side) p

-- a hold of the side: the opponent forces no mate, where the exits are true
abbrev pub MeansHold : RuleLines → (Board → Value) → Colour → Board → Type 0
MeansHold rules value side p = AreTrueExits rules value → NeverForcesMate chess (other_of side) p

-- what a bound of the side says of chess. Where the exits are not known to be true, a win says no
-- more than `forced`, and a hold nothing; a failure never says anything
abbrev pub Means : RuleLines → (Board → Value) → Colour → Board → Bound → Type 0
Means rules value side p (Wins n) = MeansWin rules value side n p
Means rules value side p Holds = MeansHold rules value side p
Means rules value side p (Fails m) = ⊤

-- where one bound is a win, the other is a failure within no more plies
abbrev pub WinsAlone : Bound → Bound → Type 0
WinsAlone (Wins n) other = (m : ℕ) × (m ≤ n) × (other ≡ Fails m)
WinsAlone bound other = ⊤

-- what a table of the side says of chess: at the number of each position of the set what the code
-- there stands for, and 0 at each broken number
pub record TableMeans (rules : RuleLines) (value : Board → Value) (side : Colour)
    (codes : List ℕ) : Type 0 where
  pub win : (p : Board) (n : ℕ) → Member rules.groups p →
      slice_index codes (Num rules.groups p) ≡ code_of (Wins n) →
      MeansWin rules value side n p
  pub hold : (p : Board) → Member rules.groups p →
      slice_index codes (Num rules.groups p) ≡ code_of Holds →
      MeansHold rules value side p
  pub broken : (i : ℕ) → i < size_of rules.groups → Broken rules.groups i → slice_index codes i ≡ 0
