use Rattle.std.proofs.Common.{arith}
use Rattle.frz_answer.proofs.Lemmas.{gave_up}
use Rattle.frz_commands_atlas.proofs.Choices.{counted_at, few_choices, kept_whole}
use Rattle.frz_commands_atlas.proofs.GroupLines.{all_listed, cut_listed, more_listed, nothing_listed}
use Rattle.frz_commands_atlas.proofs.size_lines.write_groups.Goals as goal

pub loop-i-init : goal.loop-i-init
loop-i-init g c = nothing_listed _ _

pub radix-requires : goal.radix-requires
radix-requires g c =
    counted_at _ _ _ c.requires.counted c.loop-i-test.true c.index-groups-i.is

pub returns-in_err-write_group : goal.returns-in_err-write_group
returns-in_err-write_group g c =
    let whole = kept_whole _ _ c.radix.result (few_choices _ _ _ _ c.requires.counted c.requires.few
    c.loop-i-test.true c.index-groups-i.is) (omega arith) c.radix.ensures in
    gave_up c.from_residual.ensures.0
    (cut_listed _ _ _ _ _ _ c.loop-i-test.true c.index-groups-i.is c.loop-i.invariant
    (rw whole at c.in_err-write_group.ensures.failed))

pub loop-i-preserved : goal.loop-i-preserved
loop-i-preserved g c =
    let whole = kept_whole _ _ c.radix.result (few_choices _ _ _ _ c.requires.counted c.requires.few
    c.loop-i-test.true c.index-groups-i.is) (omega arith) c.radix.ensures in
    more_listed _ _ _ _ _ _ c.loop-i-test.true c.index-groups-i.is c.loop-i.invariant
    (rw whole at c.in_ok-write_group.ensures.ok)

pub returns : goal.returns
returns g c = record {
  ok = all_listed _ _ _ _ c.loop-i-test.false c.loop-i.invariant;
  failed = tt;
}
