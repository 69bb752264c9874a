use Rattle.std.proofs.Common.{arith}
use Rattle.frz_store.specs.Told.{sink_of}
use Rattle.frz_answer.proofs.Lemmas.{gave_up, took_nothing}
use Rattle.frz_commands_atlas.proofs.FirstExits.{all_firsts, cut_firsts, more_firsts}
use Rattle.frz_commands_atlas.proofs.first_exits.write_firsts.Goals as goal

pub loop-row-init : goal.loop-row-init
loop-row-init g c = took_nothing (sink_of g.O.Sink c.args.out.now)

pub returns-in_err-write_first : goal.returns-in_err-write_first
returns-in_err-write_first g c =
    gave_up c.from_residual.ensures.0
    (cut_firsts c.args.rows.now c.loop-row.row-index c.row-item.result _ _ _ (omega arith)
    c.row-item.is c.loop-row.invariant c.in_err-write_first.ensures.failed)

pub loop-row-preserved : goal.loop-row-preserved
loop-row-preserved g c =
    more_firsts c.args.rows.now c.loop-row.row-index c.row-item.result _ _ _ (omega arith)
    c.row-item.is c.loop-row.invariant c.in_ok-write_first.ensures.ok

pub returns : goal.returns
returns g c = record {
  ok = all_firsts c.args.rows.now c.loop-row.row-index _ _ (omega arith) c.loop-row.invariant;
  failed = tt;
}
