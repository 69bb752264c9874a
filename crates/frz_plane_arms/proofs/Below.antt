-- The configurations to which moves lead are configurations of the set.
use Rattle.std.proofs.Common.{◌<◌, ℕ, Option, None, Some, List, get_or}
use Rattle.std.specs.Prelude.{IfSome}
use Rattle.std.specs.List.{All}
use Rattle.std.proofs.lemmas.Option.{slice_get-get_or}
use Rattle.frz_board.specs.Boards.{Board}
use Rattle.frz_sets.specs.Views.{GroupLine, RuleLines}
use Rattle.frz_configurations.specs.Configurations.{configuration_count}
use Rattle.frz_plane_arms.specs.Inner.{AreKingArms, IsHandedOver}
use Rattle.frz_plane_arms.specs.MenArms.{AreArms}
use Rattle.frz_plane_arms.specs.declared.men.ManArm.{ManArm}
use Rattle.frz_plane_arms.specs.declared.taking.KingArm.{KingArm}

pub men_below : (r : RuleLines) (p : Board) (arms : List ManArm) → AreArms r p arms →
    All (λ arm. arm.target < configuration_count r.groups) arms
men_below r p arms h i d l = (h.each i (get_or arms i d) (slice_get-get_or arms i d l)).inside

pub captures_below : (gs : List GroupLine) (p : Board) (arms : List KingArm) →
    AreKingArms gs p arms → All (λ arm. arm.target < configuration_count gs) arms
captures_below gs p arms h i d l = (h.each i (get_or arms i d) (slice_get-get_or arms i d l)).inside

pub quiet_below : (gs : List GroupLine) (p : Board) (target : Option ℕ) →
    IsHandedOver gs p target → IfSome target (λ d. d < configuration_count gs)
quiet_below gs p None h = tt
quiet_below gs p (Some d) h = h.1
