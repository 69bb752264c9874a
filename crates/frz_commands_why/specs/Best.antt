-- That no move of a way could be better.
use Rattle.std.specs.Prelude.{◌≡◌, ℕ, true, List, [], ◌∷◌, ⊤}
use Rattle.frz_board.specs.declared.man.Colour.{Colour}
use Rattle.frz_board.specs.Boards.{Board}
use Rattle.frz_board.specs.Men.{other_of}
use Rattle.frz_board.specs.Moving.{Step}
use Rattle.frz_sets.specs.declared.exit.Value.{Value}
use Rattle.frz_sets.specs.Views.{RuleLines}
use Rattle.frz_arena.specs.declared.arm.Arm.{Arm}
use Rattle.frz_arena.specs.declared.node.Node.TheVariants.{Going}
use Rattle.frz_arena.specs.Arena.{IsArm}
use Rattle.frz_arena.specs.Plies.{LeadsTo}
use Rattle.frz_game.specs.Games.{graph_by}
use Rattle.frz_reasons.specs.FailuresTell.{FailsBehind}

-- the move a is best at the number. Where the opponent moves, the side fails behind it as soon as
-- behind any other move; where the side moves, it fails behind each free move as soon as behind a
pub record IsBestAt (rules : RuleLines) (value : Board → Value) (side : Colour) (number : ℕ)
    (a : Arm Step ℕ Value) : Type 0 where
  pub opponent : (graph_by rules value).node number ≡ Going (other_of side) →
      (b : Arm Step ℕ Value) → IsArm (graph_by rules value) number b → (plies : ℕ) →
      FailsBehind (graph_by rules value) side plies b →
      FailsBehind (graph_by rules value) side plies a
  pub own : (graph_by rules value).node number ≡ Going side →
      (b : Arm Step ℕ Value) → IsArm (graph_by rules value) number b → b.free ≡ true →
      (plies : ℕ) → FailsBehind (graph_by rules value) side plies a →
      FailsBehind (graph_by rules value) side plies b

-- so is each of these moves, one after the other from the number on
abbrev pub AreBest : RuleLines → (Board → Value) → Colour → (number : ℕ) →
    List (Arm Step ℕ Value) → Type 0
AreBest rules value side number [] = ⊤
AreBest rules value side number (a ∷ arms) =
    IsBestAt rules value side number a
    × LeadsTo (λ next. AreBest rules value side next arms) (λ v. ⊤) a.next
