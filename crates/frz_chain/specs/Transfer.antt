-- What the codes of a side say of chess where the values of all exits are true.
use Rattle.std.specs.Prelude.{◌≡◌, ℕ, List, slice_index}
use Rattle.frz_board.specs.declared.man.Colour.{Colour}
use Rattle.frz_board.specs.Boards.{Board}
use Rattle.frz_board.specs.Men.{other_of}
use Rattle.frz_sets.specs.declared.exit.Value.{Value}
use Rattle.frz_sets.specs.Views.{RuleLines}
use Rattle.frz_index.specs.Members.{Member, Num}
use Rattle.frz_arena.specs.declared.bound.Bound.TheVariants.{Wins, Holds}
use Rattle.frz_arena.specs.Chess.{ForcesMate, NeverForcesMate}
use Rattle.frz_arena.specs.Codes.{code_of}
use Rattle.frz_arena.specs.Exits.{AllNumbered}
use Rattle.frz_game.specs.Games.{chess, game_of}

-- a stored win forces mate, and does so within its plies if each value by which the side wins has a
-- number of plies; where a win or a hold is stored, the opponent cannot force mate
pub record TellsChess (rules : RuleLines) (value : Board → Value) (side : Colour)
    (codes : List ℕ) : Type 0 where
  pub win_mates : (p : Board) (n : ℕ) → Member rules.groups p
      → slice_index codes (Num rules.groups p) ≡ code_of (Wins n)
      → (k : ℕ) × ForcesMate chess side k p
  pub win_within : AllNumbered (game_of rules value) side → (p : Board) (n : ℕ)
      → Member rules.groups p
      → slice_index codes (Num rules.groups p) ≡ code_of (Wins n) → ForcesMate chess side n p
  pub win_safe : (p : Board) (n : ℕ) → Member rules.groups p
      → slice_index codes (Num rules.groups p) ≡ code_of (Wins n)
      → NeverForcesMate chess (other_of side) p
  pub hold_safe : (p : Board) → Member rules.groups p
      → slice_index codes (Num rules.groups p) ≡ code_of Holds
      → NeverForcesMate chess (other_of side) p
