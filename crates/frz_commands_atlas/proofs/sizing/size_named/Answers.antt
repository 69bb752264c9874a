use Rattle.std.proofs.Common.{refl, arith}
use Rattle.frz_answer.specs.World.{world}
use Rattle.frz_answer.proofs.Lemmas.{fine_store, quiet_store, said}
use Rattle.frz_prelude.specs.declared.rules_at.RulesText.{RulesText}
use Rattle.frz_prelude.proofs.Lemmas.{ended, found_where, may_stop}
use Rattle.frz_commands_atlas.specs.Sizing.{sizing_at}
use Rattle.frz_commands_atlas.proofs.SizeEnds.{is_size, own_stop, stopped_at}
use Rattle.frz_commands_atlas.proofs.sizing.size_named.Goals as goal

pub returns-in-Ok : goal.returns-in-Ok
returns-in-Ok g c = λ input steps.
    let e = c.in-Ok.ensures in
    let job = sizing_at c.args.name.now in
    said job _ _ _ (world _ _ _ _) _ _ (quiet_store _ _ _ _ _ e.quiet)
    (fine_store _ _ _ _ _ _ e.cause) refl (c.said.ensures _ _ _ c.write_size.ensures)
    (λ files left agrees. record {
      found = found_where job e.read.files files left _ (λ e. cc) e.read.agrees agrees;
      answer = rw c.deref.ensures.value
          (is_size c.args.name.now e.read.files c.in-Ok.read e.read.due);
      costs = record { steps = omega arith; calls = e.read.calls; asked = e.read.asked };
    })

pub returns-in-Err : goal.returns-in-Err
returns-in-Err g c = λ input steps.
    let e = c.in-Err.ensures in
    let stop = c.in-Err.stop in
    let job = sizing_at c.args.name.now in
    ended job stop _ _ (world _ _ _ _) _ (quiet_store _ _ _ _ _ e.quiet)
    (may_stop RulesText job stop _ _ input _ _ _ refl refl (own_stop _ stop e.read.due) e.cause)
    c.end.ensures
    (λ files left agrees. stopped_at _ stop files left _ _ e.read (omega arith) agrees)
