-- What is said of the bounds of a side.
use Rattle.std.specs.Prelude.{◌≡◌, ◌↔◌, ℕ, true, List, slice_index}
use Rattle.frz_board.specs.declared.man.Colour.{Colour}
use Rattle.frz_board.specs.Boards.{Board}
use Rattle.frz_board.specs.Men.{other_of}
use Rattle.frz_sets.specs.declared.exit.Value.{Value}
use Rattle.frz_sets.specs.Views.{RuleLines}
use Rattle.frz_index.specs.Members.{Member, Num}
use Rattle.frz_arena.specs.declared.bound.Bound.TheVariants.{Wins, Holds}
use Rattle.frz_arena.specs.Chess.{ForcesMate, NeverForcesMate}
use Rattle.frz_arena.specs.Codes.{code_of}
use Rattle.frz_arena.specs.WholeTruth.{MatesIn}
use Rattle.frz_game.specs.ExactTables.{HasExactOutcomes}
use Rattle.frz_game.specs.Games.{chess}
use Rattle.frz_atlas.specs.Links.{Link}
use Rattle.frz_premises.specs.Believing.{BeliefHolds, BeliefsHold}
use Rattle.frz_premises.specs.declared.sides.Strength.{Strength}
use Rattle.frz_premises.specs.declared.sides.Strength.TheVariants.{Believed, Renounced, Undecided, Outcomes, Exact}
use Rattle.frz_premises.specs.Sides.{renounces}
use Rattle.frz_premises.specs.Undecided.{IsUndecided}
use Rattle.frz_commands_premises.specs.PremiseLines.{built_value, leans_over}

-- the codes of the side are true in chess: with a win it forces mate, and with a win or a hold its
-- opponent does not
pub record IsTrueInChess (rules : RuleLines) (side : Colour) (codes : List ℕ) : Type 0 where
  pub mates : (p : Board) (n : ℕ) → Member rules.groups p →
      slice_index codes (Num rules.groups p) ≡ code_of (Wins n) →
      (k : ℕ) × ForcesMate chess side k p
  pub wins_safely : (p : Board) (n : ℕ) → Member rules.groups p →
      slice_index codes (Num rules.groups p) ≡ code_of (Wins n) →
      NeverForcesMate chess (other_of side) p
  pub holds : (p : Board) → Member rules.groups p →
      slice_index codes (Num rules.groups p) ≡ code_of Holds →
      NeverForcesMate chess (other_of side) p

-- a win of n plies stands exactly where the side forces mate in n plies and no fewer
abbrev pub HasExactPlies : RuleLines → Colour → List ℕ → Type 0
HasExactPlies rules side codes =
    (p : Board) (n : ℕ) → Member rules.groups p →
    (slice_index codes (Num rules.groups p) ≡ code_of (Wins n)) ↔ MatesIn chess side n p

-- the codes are true in chess, and a line of the text forbids the side a move
pub record IsTrueRenouncing (rules : RuleLines) (side : Colour) (codes : List ℕ) : Type 0 where
  pub renounced : renounces rules side ≡ true
  pub true_codes : IsTrueInChess rules side codes

-- the codes are true in chess, and there is an exit, the first, whose value says neither who wins
-- nor that the game is drawn
pub record IsTrueUndecided (rules : RuleLines) (value : Board → Value) (side : Colour)
    (codes : List ℕ) : Type 0 where
  pub exit : Board
  pub undecided : IsUndecided rules value exit
  pub true_codes : IsTrueInChess rules side codes

-- what is said of the codes of a side of RULES over these tables
abbrev pub StrengthMeans : RuleLines → List Link → Colour → List ℕ → Strength → Type 0
StrengthMeans rules links side codes Believed =
    BeliefsHold links → BeliefHolds (leans_over links) rules links →
    IsTrueInChess rules side codes
StrengthMeans rules links side codes Renounced = IsTrueRenouncing rules side codes
StrengthMeans rules links side codes Undecided =
    IsTrueUndecided rules (built_value rules links) side codes
StrengthMeans rules links side codes Outcomes = HasExactOutcomes rules side codes
StrengthMeans rules links side codes Exact =
    HasExactOutcomes rules side codes × HasExactPlies rules side codes
