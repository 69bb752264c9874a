-- The pairs at which a step leaves the set.
use Rattle.std.specs.Prelude.{ℕ, ◌≡◌, ◌<◌, ◌↔◌, true, false, List, None}
use Rattle.frz_board.specs.declared.man.Colour.{Colour}
use Rattle.frz_board.specs.Boards.{Board}
use Rattle.frz_board.specs.Moving.{IsStep, Step}
use Rattle.frz_fide.specs.Legal.{after, is_legal}
use Rattle.frz_sets.specs.Views.{GroupLine, RuleLines}
use Rattle.frz_index.specs.Members.{Member}
use Rattle.frz_planes.specs.Planes.{has_pair}
use Rattle.frz_king_planes.specs.Kings.{king_square, with_kings}
use Rattle.frz_king_planes.specs.Valid.{AreValid}
use Rattle.frz_kingless.specs.Boards.{IsBoardOf}
use Rattle.frz_plane_arms.specs.Arms.{HasNoMember, MakesMember}
use Rattle.frz_plane_exits.specs.declared.left.Left.{Left}
use Rattle.frz_plane_exits.specs.declared.mover.Mover.{Mover}
use Rattle.frz_plane_exits.specs.declared.mover.Mover.TheVariants.{King, Man}

-- the step that a mover makes with the kings on a and b
abbrev pub step_by : Mover → Colour → (a b : ℕ) → Step
step_by (Man m) turn a b = m
step_by (King s) turn a b = record { from = king_square turn a b; to = s; promo = None }

-- it is legal with the kings on a and b, and leaves the set
pub record Leaves (r : RuleLines) (p : Board) (mover : Mover) (a b : ℕ) : Type 0 where
  pub here : MakesMember r.groups p a b
  pub is_step : IsStep (step_by mover p.turn a b)
  pub legal : is_legal (with_kings p a b) (step_by mover p.turn a b) ≡ true
  pub outside : Member r.groups (after (with_kings p a b) (step_by mover p.turn a b)) → ⊥

-- the plane has exactly the pairs at which it does
abbrev pub AreLeaving : RuleLines → Board → Mover → (plane : List ℕ) → Type 0
AreLeaving r p mover plane =
    (a b : ℕ) → a < 64 → b < 64 → (has_pair plane a b ≡ true) ↔ Leaves r p mover a b

-- the plane has exactly the pairs on which the kings make a position of the set
abbrev pub AreMembers : List GroupLine → Board → (live : List ℕ) → Type 0
AreMembers gs p live =
    (a b : ℕ) → a < 64 → b < 64 → (has_pair live a b ≡ true) ↔ MakesMember gs p a b

-- what is known of a board that a step leaves
pub record IsLeft (gs : List GroupLine) (q : Board) (left : Left) : Type 0 where
  pub valid : AreValid q left.valid
  pub inside : left.is_inside ≡ true → (c : ℕ) × IsBoardOf gs c q
  pub outside : left.is_inside ≡ false → HasNoMember gs q
