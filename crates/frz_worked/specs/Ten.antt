-- A game of ten numbers, by the tables of its numbers and of its moves.
use Rattle.std.specs.Prelude.{◌==◌, ◌&&◌, ℕ, Bool, false, not, if◌then◌else◌, min, List, get_or, Option, Some, None}
use Rattle.std.specs.List.{filter_map}
use Rattle.frz_board.specs.Moving.{Step}
use Rattle.frz_sets.specs.declared.exit.Value.{Value}
use Rattle.frz_arena.specs.Arena.{Arena}
use Rattle.frz_arena.specs.declared.arm.Next.TheVariants.{Inside, Outside}
use Rattle.frz_arena.specs.declared.node.Node.TheVariants.{Broken}
use Rattle.frz_exits.specs.Values.{class_of, lag_of}
use Rattle.frz_graph.specs.Finite.{IsFinite}
use Rattle.frz_retro.specs.Graphs.{Arm, Next, HasDifferentArms}
use Rattle.frz_unmove.specs.declared.preds.Pred.{Pred}
use Rattle.frz_worked.specs.declared.ten.Edge.{Edge}
use Rattle.frz_worked.specs.declared.ten.TheConstants.{NODES, EDGES, BARRED}

-- each move goes from the square 0 to the square of the number that it leads to, or to 63
abbrev pub target_of : Next → ℕ
target_of (Inside q) = min q 63
target_of (Outside v) = 63

abbrev pub step_of : Next → Step
step_of next = record { from = 0; to = target_of next; promo = None }

-- every move but one is free
abbrev pub is_free : ℕ → ℕ → Bool
is_free i target = not ((i == BARRED.0) && (target == BARRED.1))

-- the edge as a move of its number, and as a move back of the number that it leads to
abbrev pub arm_of : Edge → Arm
arm_of edge = record {
  mv = step_of edge.next;
  free = is_free edge.number (target_of edge.next);
  next = edge.next;
}

abbrev pub pred_of : Edge → Pred
pred_of edge = record { number = edge.number; mv = step_of edge.next }

abbrev pub leads_to : ℕ → Next → Bool
leads_to q (Inside p) = p == q
leads_to q (Outside v) = false

abbrev pub arm_from : ℕ → Edge → Option Arm
arm_from i edge = if edge.number == i then Some (arm_of edge) else None

abbrev pub pred_to : ℕ → Edge → Option Pred
pred_to q edge = if leads_to q edge.next then Some (pred_of edge) else None

abbrev pub arms_from : ℕ → List Arm
arms_from i = filter_map (arm_from i) EDGES

abbrev pub preds_to : ℕ → List Pred
preds_to q = filter_map (pred_to q) EDGES

abbrev pub game : Arena Step ℕ Value
game = record {
  node = λ i. get_or NODES i Broken;
  arms = arms_from;
  class = class_of;
  lag = lag_of;
}

-- it is a graph
pub record IsSound : Type 0 where
  pub finite : IsFinite game 10
  pub different : HasDifferentArms game
