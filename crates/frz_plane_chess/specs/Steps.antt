-- Where legal steps lead from a board of a configuration, by the squares of the kings.
use Rattle.std.specs.Prelude.{ℕ, ◌≡◌, ◌↔◌, Bool, true, if◌then◌else◌}
use Rattle.std.specs.Bool.{IsTrue}
use Rattle.frz_board.specs.declared.man.Colour.{Colour}
use Rattle.frz_board.specs.Boards.{Board}
use Rattle.frz_board.specs.Moving.{IsStep, Step}
use Rattle.frz_fide.specs.Legal.{after, is_legal}
use Rattle.frz_sets.specs.declared.exit.Value.{Value}
use Rattle.frz_sets.specs.Views.{RuleLines}
use Rattle.frz_exits.specs.Forbidding.{is_free}
use Rattle.frz_arena.specs.declared.arm.Arm.{Arm}
use Rattle.frz_arena.specs.declared.arm.Next.{Next}
use Rattle.frz_arena.specs.declared.arm.Next.TheVariants.{Inside, Outside}
use Rattle.frz_index.specs.Members.{Num}
use Rattle.frz_index.specs.Membership.{is_member}
use Rattle.frz_king_planes.specs.Kings.{with_kings}
use Rattle.frz_game.specs.Games.{graph_by}
use Rattle.frz_plane_exits.specs.Exits.{LeavesWith}
use Rattle.frz_plane_game.specs.declared.target.Exits.{Exits}
use Rattle.frz_plane_game.specs.Targets.{HasWorth}

-- the number of a position of the set, or the value of one outside
unfoldable pub next_at : RuleLines → (Board → Value) → Board → Next ℕ Value
next_at r value q =
    if is_member r.groups q then Inside (Num r.groups q) else Outside (value q)

-- the move is a legal step of the position, with its freedom and where it leads
pub record IsMove (r : RuleLines) (value : Board → Value) (q : Board) (arm : Arm Step ℕ Value) :
    Type 0 where
  pub is_step : IsStep arm.mv
  pub legal : is_legal q arm.mv ≡ true
  pub free : arm.free ≡ is_free r q.turn q arm.mv
  pub next : arm.next ≡ next_at r value (after q arm.mv)

-- a step that is legal with the kings on a and b leads to where P holds; where free steps alone
-- count, a free one
pub record HasStep (r : RuleLines) (value : Board → Value) (p : Board) (only_free : Bool)
    (P : Next ℕ Value → Type 0) (a b : ℕ) : Type 0 where
  pub step : Step
  pub is_step : IsStep step
  pub legal : is_legal (with_kings p a b) step ≡ true
  pub free : only_free ≡ true → is_free r p.turn (with_kings p a b) step ≡ true
  pub leads : P (next_at r value (after (with_kings p a b) step))

-- such a step leaves the set to an exit of this worth to the side where into is true, or to another
-- exit where it is false
pub record LeavesTo (r : RuleLines) (value : Board → Value) (p : Board) (only_free into : Bool)
    (side : Colour) (exits : Exits) (a b : ℕ) : Type 0 where
  pub outcome : Value
  pub freedom : Bool
  pub leaves : LeavesWith r value p freedom outcome a b
  pub free : only_free ≡ true → freedom ≡ true
  pub worth : IsTrue into ↔ HasWorth (graph_by r value) side exits outcome
