use Rattle.std.proofs.Common.{arith}
use Rattle.std.proofs.lemmas.Result.{err_from_is_err_and}
use Rattle.frz_table.specs.Asking.{listing}
use Rattle.frz_asks.proofs.Lemmas.{no_memory}
use Rattle.frz_table.proofs.Pieces.{none_loaded, more_loaded, not_loaded, all_loaded}
use Rattle.frz_table.proofs.lists.load_numbers.Goals as goal

pub returns-in_default-clause-run : goal.returns-in_default-clause-run
unfolding listing
returns-in_default-clause-run g c = no_memory _ _

pub loop-buffer-init : goal.loop-buffer-init
loop-buffer-init g c = record {
  loading = none_loaded _ _ _ _ _ _ c.in-Ok.ensures.items c.in-Ok.ensures.len;
  room = omega (arith, c.in-Ok.ensures.exact);
  within = omega (arith, c.in-Ok.ensures.len);
}

pub loop-buffer-preserved : goal.loop-buffer-preserved
loop-buffer-preserved g c = record {
  loading = more_loaded _ _ _ _ _ _ _ _ _ _ c.loop-buffer.invariant.loading
      (omega (arith, c.loop-buffer-test.true, c.len.ensures)) c.in_ok-read_piece.ensures.ran
      (omega (arith, c.in_ok-read_piece.ensures.length, c.loop-buffer.list.ok));
  room = omega (arith, c.loop-buffer.invariant.room, c.read_piece.ensures.capacity);
  within = omega (arith, c.loop-buffer.invariant.within, c.in_ok-read_piece.ensures.length, c.loop-buffer.list.ok);
}

pub returns-in_err-read_piece-clause-run : goal.returns-in_err-read_piece-clause-run
returns-in_err-read_piece-clause-run g c =
    let p = err_from_is_err_and c.from_residual.result c.from_residual.ensures.1 in
    rw (p.1, p.2) (not_loaded _ _ _ _ _ _ _ _ _ c.loop-buffer.invariant.loading
    (omega (arith, c.loop-buffer-test.true, c.len.ensures)) c.in_err-read_piece.ensures.halted)

pub returns-clause-run : goal.returns-clause-run
returns-clause-run g c =
    all_loaded _ _ _ _ _ _ _ c.loop-buffer.invariant.loading
    (omega (arith, c.loop-buffer-test.false, c.len.ensures))
