-- Which exits count, and which numbers have moves.
use Rattle.std.specs.Prelude.{ℕ, ◌≡◌, ◌≤◌, ◌<◌, ◌↔◌, Bool, true, false, List, ⊤}
use Rattle.frz_board.specs.declared.man.Colour.{Colour}
use Rattle.frz_board.specs.Attacks.{is_in_check}
use Rattle.frz_board.specs.Boards.{Board}
use Rattle.frz_sets.specs.declared.exit.Value.{Value}
use Rattle.frz_sets.specs.Views.{RuleLines}
use Rattle.frz_arena.specs.declared.class.Class.TheVariants.{Good, Bad}
use Rattle.frz_exits.specs.Values.{class_of, lag_of}
use Rattle.frz_planes.specs.Planes.{has_pair}
use Rattle.frz_king_planes.specs.Kings.{with_kings}
use Rattle.frz_plane_arms.specs.Arms.{MakesMember}
use Rattle.frz_plane_exits.specs.Exits.{HasExit}
use Rattle.frz_plane_exits.specs.declared.exit_plane.ExitPlane.{ExitPlane}
use Rattle.frz_plane_game.specs.declared.target.Exits.{Exits}
use Rattle.frz_plane_game.specs.declared.target.Exits.TheVariants.{Wins, Losses}
use Rattle.frz_plane_chess.specs.Steps.{HasStep}

-- the value is that of such an exit
abbrev pub IsWorth : Colour → Exits → Value → Type 0
IsWorth side (Wins n) v = (class_of v side ≡ Good) × (lag_of v ≤ n)
IsWorth side Losses v = class_of v side ≡ Bad

-- the exit counts: P holds of its value, and where free steps alone count, its steps are free
abbrev pub Counts : Bool → (Value → Type 0) → ExitPlane → Type 0
Counts only_free P exit = (only_free ≡ true → exit.free ≡ true) × P exit.value

-- one of the planes has the pair, of a value of which P holds; where free steps alone count, one of
-- free steps
pub record HasExitWhere (exits : List ExitPlane) (only_free : Bool) (P : Value → Type 0) (a b : ℕ) :
    Type 0 where
  pub outcome : Value
  pub freedom : Bool
  pub exit : HasExit exits outcome freedom a b
  pub free : only_free ≡ true → freedom ≡ true
  pub worth : P outcome

-- the plane has exactly the pairs of such exits
abbrev pub AreExitsWhere : List ExitPlane → Bool → (Value → Type 0) → List ℕ → Type 0
AreExitsWhere exits only_free P plane =
    (a b : ℕ) → a < 64 → b < 64 →
    (has_pair plane a b ≡ true) ↔ HasExitWhere exits only_free P a b

-- with the kings on a and b there is a legal step; where free steps alone count, a free one
abbrev pub CanMove : RuleLines → (Board → Value) → Board → Bool → (a b : ℕ) → Type 0
CanMove r value p only_free a b = HasStep r value p only_free (λ _. ⊤) a b

-- the plane has exactly the pairs of positions of the set at which there is such a step
abbrev pub AreMoving : RuleLines → (Board → Value) → Board → Bool → List ℕ → Type 0
AreMoving r value p only_free plane =
    (a b : ℕ) → a < 64 → b < 64 →
    (has_pair plane a b ≡ true)
    ↔ (MakesMember r.groups p a b × CanMove r value p only_free a b)

-- the side to move is mated with the kings on a and b
pub record IsMated (r : RuleLines) (value : Board → Value) (p : Board) (a b : ℕ) : Type 0 where
  pub check : is_in_check (with_kings p a b) p.turn ≡ true
  pub stuck : CanMove r value p false a b → ⊥

-- the plane has exactly the pairs of positions of the set at which it is
abbrev pub AreMated : RuleLines → (Board → Value) → Board → List ℕ → Type 0
AreMated r value p plane =
    (a b : ℕ) → a < 64 → b < 64 →
    (has_pair plane a b ≡ true) ↔ (MakesMember r.groups p a b × IsMated r value p a b)

-- the lag of each of the exits that wins for the side is at most this, or above 1,000 plies
abbrev pub HasLagsWithin : List ExitPlane → Colour → ℕ → Type 0
HasLagsWithin exits side most =
    (v : Value) (free : Bool) (a b : ℕ) → HasExit exits v free a b → lag_of v ≤ 1000 →
    class_of v side ≡ Good → lag_of v ≤ most

-- none of the exits is a win of the side with this lag
abbrev pub HasNoWinWith : List ExitPlane → Colour → (lag : ℕ) → Type 0
HasNoWinWith exits side lag =
    (v : Value) (free : Bool) (a b : ℕ) → HasExit exits v free a b → class_of v side ≡ Good →
    lag_of v ≡ lag → ⊥
