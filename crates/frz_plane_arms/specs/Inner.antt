-- The moves of a configuration that may stay in the set.
use Rattle.std.specs.Prelude.{ℕ, ◌≡◌, ◌<◌, Bool, true, List, Some, [], IfSome, MatchOption, Option}
use Rattle.std.specs.List.{All, slice_get, slice_index_or}
use Rattle.frz_board.specs.Boards.{Board, holds}
use Rattle.frz_board.specs.Men.{other_of}
use Rattle.frz_sets.specs.Views.{GroupLine, RuleLines}
use Rattle.frz_sets.specs.declared.forbid.Forbid.{Forbid}
use Rattle.frz_configurations.specs.Configurations.{configuration_count}
use Rattle.frz_pair_moves.specs.Kings.{handed}
use Rattle.frz_pair_moves.specs.Moves.{entered}
use Rattle.frz_kingless.specs.Boards.{IsBoardOf}
use Rattle.frz_plane_arms.specs.Arms.{HasNoMember, KingLeads, KingLeadsQuietly, MakesMember}
use Rattle.frz_plane_arms.specs.MenArms.{AreArms}
use Rattle.frz_plane_arms.specs.declared.inner.InnerMoves.{InnerMoves}
use Rattle.frz_plane_arms.specs.declared.taking.KingArm.{KingArm}

-- a man of the other side stands on the square, and the configuration is that of the men that a king
-- leaves who takes him
pub record IsKingArm (gs : List GroupLine) (p : Board) (arm : KingArm) : Type 0 where
  pub taken : holds p (other_of p.turn) arm.square ≡ true
  pub board : IsBoardOf gs arm.target (entered p arm.square)
  pub inside : arm.target < configuration_count gs

-- no man of the other side stands on the square, or kings make no position of the set after a king's
-- capture there
abbrev pub HasNoCapture : List GroupLine → Board → ℕ → Type 0
HasNoCapture gs p s = holds p (other_of p.turn) s ≡ true → HasNoMember gs (entered p s)

-- one of the arms has this square
pub record HasKingArm (arms : List KingArm) (s : ℕ) : Type 0 where
  pub place : ℕ
  pub arm : KingArm
  pub there : slice_get arms place ≡ Some arm
  pub square : arm.square ≡ s

-- the arms are such captures, and they are all after which kings make a position of the set
pub record AreKingArms (gs : List GroupLine) (p : Board) (arms : List KingArm) : Type 0 where
  pub each : (k : ℕ) (arm : KingArm) → slice_get arms k ≡ Some arm → IsKingArm gs p arm
  pub all : (s a b : ℕ) → s < 64 → holds p (other_of p.turn) s ≡ true →
      MakesMember gs (entered p s) a b → HasKingArm arms s

-- the king of the side to move takes a man, as by KingLeads, to a pair that the plane of its
-- configuration has, or has not
pub record KingTakes (gs : List GroupLine) (lines : List Forbid) (p : Board)
    (planes : List (List ℕ)) (into : Bool) (a b : ℕ) : Type 0 where
  pub square : ℕ
  pub on_board : square < 64
  pub taken : holds p (other_of p.turn) square ≡ true
  pub target : ℕ
  pub board : IsBoardOf gs target (entered p square)
  pub leads : KingLeads gs lines p (slice_index_or planes target []) into a b square

-- the configuration of the same men with the other side to move
abbrev pub IsHandedOver : List GroupLine → Board → Option ℕ → Type 0
IsHandedOver gs p target =
    MatchOption target (HasNoMember gs (handed p))
    (λ d. IsBoardOf gs d (handed p) × (d < configuration_count gs))

-- the king of the side to move goes to an empty square, as by KingLeads, to a pair that the plane of
-- the configuration of the same men has, or has not
pub record KingSteps (gs : List GroupLine) (lines : List Forbid) (p : Board)
    (planes : List (List ℕ)) (into : Bool) (a b : ℕ) : Type 0 where
  pub target : ℕ
  pub board : IsBoardOf gs target (handed p)
  pub leads : KingLeadsQuietly gs lines p (slice_index_or planes target []) into a b

-- the moves of the side to move on the board of a configuration: those of its men, the configuration
-- after a king's step to an empty square, and the captures of the king
pub record AreInner (r : RuleLines) (p : Board) (moves : InnerMoves) : Type 0 where
  pub turn : moves.turn ≡ p.turn
  pub men : AreArms r p moves.men.items
  pub quiet : IsHandedOver r.groups p moves.quiet
  pub captures : AreKingArms r.groups p moves.captures.items

-- the configurations to which the moves lead are below n
pub record AreBelow (n : ℕ) (moves : InnerMoves) : Type 0 where
  pub men : All (λ arm. arm.target < n) moves.men.items
  pub quiet : IfSome moves.quiet (λ d. d < n)
  pub captures : All (λ arm. arm.target < n) moves.captures.items
