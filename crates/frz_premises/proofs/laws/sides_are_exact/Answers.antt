use Rattle.std.proofs.Common.{inr}
use Rattle.frz_premises.specs.Sides.{exits_tell}
use Rattle.frz_premises.proofs.SideValues.{exact_outcomes, exact_wins, nothing_bad_where_exact, strong_side_is_decided}
use Rattle.frz_premises.proofs.laws.sides_are_exact.Goals as goal

pub returns-clause-outcomes : goal.returns-clause-outcomes
returns-clause-outcomes c rules value side codes exits table believed h =
    let needs = strong_side_is_decided rules believed (exits_tell rules value) side h in
    exact_outcomes rules value side codes table needs.0 exits needs.1

pub returns-clause-plies : goal.returns-clause-plies
returns-clause-plies c rules value side codes exits table believed h p n member =
    let needs = strong_side_is_decided rules believed (exits_tell rules value) side (inr h) in
    exact_wins rules value side codes table needs.0 exits needs.1
    (nothing_bad_where_exact rules believed (exits_tell rules value) side h) p member n
