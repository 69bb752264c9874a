use Rattle.std.proofs.Common.{◌<◌, List, subst, sym}
use Rattle.std.specs.List.{All}
use Rattle.frz_sets.specs.Views.{GroupLine}
use Rattle.frz_configurations.specs.Configurations.{configuration_count}
use Rattle.frz_plane_arms.specs.declared.men.ManArm.{ManArm}
use Rattle.frz_plane_arms.proofs.Below.{captures_below, men_below, quiet_below}
use Rattle.frz_plane_arms.proofs.inner.inner_moves.Goals as goal

pub returns-clause-below : goal.returns-clause-below
returns-clause-below c =
    let gs = c.args.set.now in
    let p = c.args.p.now in
    let men = c.in_ok-men_arms.field-0.items in
    record {
      men = subst (λ (hs : List GroupLine).
          All (λ (arm : ManArm). arm.target < configuration_count hs) men) (sym c.requires.set)
          (men_below c.args.configurations.now.rules.now p men c.in_ok-men_arms.ensures);
      quiet = quiet_below gs p c.quiet_target.result c.quiet_target.ensures;
      captures = captures_below gs p c.in_ok-king_arms.field-0.items c.in_ok-king_arms.ensures;
    }
