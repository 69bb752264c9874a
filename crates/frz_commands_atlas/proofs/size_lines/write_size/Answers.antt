use Rattle.std.proofs.Common.{◌≡◌, ap, ◌∙◌, List, arith}
use Rattle.frz_sets.specs.Views.{GroupLine, RuleLines}
use Rattle.frz_sets.proofs.Lemmas.{counted}
use Rattle.frz_answer.proofs.Lemmas.{failed_first, failed_next, gave_up, wrote_next}
use Rattle.frz_commands_atlas.proofs.Choices.{few_products, kept_whole}
use Rattle.frz_commands_atlas.proofs.size_lines.write_size.Goals as goal

-- the groups of the rules, by what is seen of them
groups_of : (inside rules : RuleLines) (groups : List GroupLine) → inside ≡ rules
    → groups ≡ inside.groups → groups ≡ rules.groups
groups_of inside rules groups seen is = is ∙ ap (λ (r : RuleLines). r.groups) seen

pub returns-in_err-write_turns : goal.returns-in_err-write_turns
returns-in_err-write_turns g c =
    let is = groups_of _ _ _ c.rules.view_is c.deref.ensures.value in
    let turns = rw is at c.in_err-write_turns.ensures.failed in
    gave_up c.from_residual.ensures.0 (failed_first _ turns)

pub write_groups-requires : goal.write_groups-requires
write_groups-requires g c =
    rw (groups_of _ _ _ c.rules.view_is c.deref-2.ensures.value) (record {
      counted = counted c.args.rules.now c.requires.sound.lines;
      few = few_products c.args.rules.now.groups _ c.requires.sound.size;
    })

pub returns-in_err-write_groups : goal.returns-in_err-write_groups
returns-in_err-write_groups g c =
    let is = groups_of _ _ _ c.rules.view_is c.deref.ensures.value in
    let turns = rw is at c.in_ok-write_turns.ensures.ok in
    let also = groups_of _ _ _ c.rules.view_is c.deref-2.ensures.value in
    let groups = rw also at c.in_err-write_groups.ensures.failed in
    gave_up c.from_residual-in_err-write_groups.ensures.0 (failed_next turns (failed_first _ groups))

pub returns : goal.returns
returns g c =
    let is = groups_of _ _ _ c.rules.view_is c.deref.ensures.value in
    let turns = rw is at c.in_ok-write_turns.ensures.ok in
    let also = groups_of _ _ _ c.rules.view_is c.deref-2.ensures.value in
    let groups = rw also at c.in_ok-write_groups.ensures.ok in
    let whole = kept_whole _ _ c.set_size.result c.requires.sound.size (omega arith)
    c.set_size.ensures in
    wrote_next turns (wrote_next groups (rw whole at c.write_totals.ensures))
