use Rattle.std.proofs.lemmas.Result.{err_from_is_err_and}
use Rattle.frz_asks.proofs.Lemmas.{halt_first, run_none, run_on}
use Rattle.frz_table.proofs.numbers.read_number.Goals as goal

pub returns-in_err-read_at-clause-run : goal.returns-in_err-read_at-clause-run
returns-in_err-read_at-clause-run g c =
    let p = err_from_is_err_and c.from_residual.result c.from_residual.ensures.1 in
    rw (p.1, p.2) (halt_first _ c.in_err-read_at.ensures.halted)

pub returns-clause-run : goal.returns-clause-run
returns-clause-run g c =
    run_on _ c.in_ok-read_at.ensures.came (rw c.from_le_bytes.ensures (run_none _ _))
