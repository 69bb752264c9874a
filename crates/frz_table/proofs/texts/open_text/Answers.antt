use Rattle.std.proofs.Common.{◌≡◌, arith, ap, Result, Ok, Err}
use Rattle.std.proofs.lemmas.Result.{err_from_is_err_and}
use Rattle.frz_asks.proofs.Lemmas.{covers, halt_first, memory_on, no_memory, ok_on, run_none, run_on, sized_on, stop_first}
use Rattle.frz_rules.specs.declared.fault.RulesError.{RulesError}
use Rattle.frz_sets.specs.Views.{RuleLines}
use Rattle.frz_table.specs.Asking.{by_head, reading, texting}
use Rattle.frz_table.specs.Faults.{stop_of}
use Rattle.frz_table.proofs.NotRead.{not_read, read_as}
use Rattle.frz_table.proofs.Stops.{halts}
use Rattle.frz_table.proofs.texts.open_text.Goals as goal

error_is : (e f : RulesError) → e ≡ f
    → (let r : Result RuleLines RulesError = Err e in r) ≡ Err f
error_is e f h =
    ap (λ (x : RulesError). let r : Result RuleLines RulesError = Err x in r) h

pub returns-in_err-head-clause-run : goal.returns-in_err-head-clause-run
unfolding texting
returns-in_err-head-clause-run g c =
    let p = err_from_is_err_and c.from_residual.result c.from_residual.ensures.1 in
    rw (p.1, p.2) (stop_first (stop_of c.in_err-head.field-0.0) (by_head c.args.name.now)
    c.in_err-head.ensures.run)

pub read_text-requires-clause-there : goal.read_text-requires-clause-there
read_text-requires-clause-there g c =
    covers _ _ c.in_ok-head.head.file 12 c.in_ok-head.head.text c.in_ok-head.ensures.sized
    (omega (arith, c.in_ok-head.ensures.fits))

pub returns-in_err-read_text-clause-run : goal.returns-in_err-read_text-clause-run
unfolding texting
returns-in_err-read_text-clause-run g c =
    let p = err_from_is_err_and c.from_residual-in_err-read_text.result
    c.from_residual-in_err-read_text.ensures.1 in
    rw (p.1, p.2) (halts _ (ok_on (by_head c.args.name.now) c.in_ok-head.ensures.run
    (halt_first (reading c.in_ok-head.head.file) c.in_err-read_text.ensures.halted)))

pub returns-in_err-rules-clause-run : goal.returns-in_err-rules-clause-run
unfolding texting
returns-in_err-rules-clause-run g c =
    let p = err_from_is_err_and c.from_residual-in_err-rules.result
    c.from_residual-in_err-rules.ensures.1 in
    rw (p.1, p.2) (ok_on (by_head c.args.name.now) c.in_ok-head.ensures.run
    (run_on (reading c.in_ok-head.head.file) c.in_ok-read_text.ensures.came
    (not_read _ _ c.in_err-rules.field-0.0 _ c.in_err-rules.ensures.exact
    (λ e. c.in_err-rules.ensures.memory (error_is _ _ e)))))

pub returns-in_err-text-clause-run : goal.returns-in_err-text-clause-run
unfolding texting
returns-in_err-text-clause-run g c =
    let p = err_from_is_err_and c.from_residual-in_err-text.result
    c.from_residual-in_err-text.ensures.1 in
    rw (p.1, p.2) (ok_on (by_head c.args.name.now) c.in_ok-head.ensures.run
    (run_on (reading c.in_ok-head.head.file) c.in_ok-read_text.ensures.came
    (read_as _ _ (Ok c.in_ok-rules.rules) _ _ _ c.in_ok-rules.ensures.exact (no_memory _ _))))

pub returns-clause-run : goal.returns-clause-run
unfolding texting
returns-clause-run g c =
    rw c.in_ok-text.ensures.items (ok_on (by_head c.args.name.now) c.in_ok-head.ensures.run
    (run_on (reading c.in_ok-head.head.file) c.in_ok-read_text.ensures.came
    (read_as _ _ (Ok c.in_ok-rules.rules) _ _ _ c.in_ok-rules.ensures.exact
    (memory_on (run_none _ _)))))

pub returns-clause-sized : goal.returns-clause-sized
returns-clause-sized g c =
    sized_on _ _ _ _ c.in_ok-read_text.ensures.came.quiet.unwritten.files c.in_ok-head.ensures.sized
