use Rattle.std.proofs.Common.{arith}
use Rattle.std.proofs.lemmas.Result.{err_from_is_err_and}
use Rattle.frz_asks.proofs.Lemmas.{covers, halt_first, run_none, run_on, size_told, sized_on}
use Rattle.frz_store.specs.Told.{store_of}
use Rattle.frz_table.specs.Asking.{by_size, heading}
use Rattle.frz_table.specs.Layout.{due_front}
use Rattle.frz_table.proofs.Heads.{begun, short, long, other, same, too_long, cut, whole}
use Rattle.frz_table.proofs.Stops.{halts, refuses}
use Rattle.frz_table.proofs.Tests.{not_is_true, not_is_false}
use Rattle.frz_table.proofs.head.read_head.Goals as goal

pub returns-in_default-clause-run : goal.returns-in_default-clause-run
unfolding heading
returns-in_default-clause-run g c =
    run_on (by_size c.args.name.now (due_front c.args.magic)) (rw c.in_default.is at c.in_ok-file.ensures)
    (run_none _ _)

pub returns-in_err-file-clause-run : goal.returns-in_err-file-clause-run
unfolding heading
returns-in_err-file-clause-run g c =
    let p = err_from_is_err_and c.from_residual.result c.from_residual.ensures.1 in
    rw (p.1, p.2) (halts _ (halt_first _ c.in_err-file.ensures))

pub returns-then-file-lt16-clause-run : goal.returns-then-file-lt16-clause-run
returns-then-file-lt16-clause-run g c =
    short _ _ _ _ _ (rw c.in-Some.is at c.in_ok-file.ensures) c.if-file-lt16.true

pub read_at-requires : goal.read_at-requires
read_at-requires g c =
    covers _ _ c.in-Some.file 0 8
    (size_told _ _ _ _ (rw c.in-Some.is at c.in_ok-file.ensures)) (omega arith)

pub returns-in_err-read_at-clause-run : goal.returns-in_err-read_at-clause-run
returns-in_err-read_at-clause-run g c =
    let p = err_from_is_err_and c.from_residual-in_err-read_at.result
    c.from_residual-in_err-read_at.ensures.1 in
    rw (p.1, p.2) (halts _ (long _ _ _ _ _ (rw c.in-Some.is at c.in_ok-file.ensures) (omega arith)
    (halt_first _ c.in_err-read_at.ensures.halted)))

pub returns-then-ne-clause-run : goal.returns-then-ne-clause-run
returns-then-ne-clause-run g c =
    rw c.magic_fault.ensures
    (refuses _ (other _ _ _ _ _ (rw c.in-Some.is at c.in_ok-file.ensures) _ _ c.in_ok-read_at.ensures.came
    (omega arith)
    (not_is_true _ (rw (c.as_slice.ensures, c.as_slice-2.ensures, c.due_bytes.ensures) at c.if-ne.ensures))))

pub read_number-requires : goal.read_number-requires
read_number-requires g c =
    covers _ _ c.in-Some.file 8 4
    (sized_on _ _ _ _ c.in_ok-read_at.ensures.came.quiet.unwritten.files
    (size_told _ _ _ _ (rw c.in-Some.is at c.in_ok-file.ensures))) (omega arith)

pub returns-in_err-text-clause-run : goal.returns-in_err-text-clause-run
returns-in_err-text-clause-run g c =
    let p = err_from_is_err_and c.from_residual-in_err-text.result
    c.from_residual-in_err-text.ensures.1 in
    rw (p.1, p.2) (halts _ (same _ _ _ _ _ (rw c.in-Some.is at c.in_ok-file.ensures) _ _
    c.in_ok-read_at.ensures.came (omega arith)
    (not_is_false _ (rw (c.as_slice.ensures, c.as_slice-2.ensures, c.due_bytes.ensures) at c.if-ne.ensures))
    (halt_first _ c.in_err-text.ensures.run)))

pub returns-then-text-gt-LONGEST_TEXT-clause-run : goal.returns-then-text-gt-LONGEST_TEXT-clause-run
returns-then-text-gt-LONGEST_TEXT-clause-run g c =
    too_long _ _ _ _ _ (rw c.in-Some.is at c.in_ok-file.ensures) _ _ c.in_ok-read_at.ensures.came
    (omega arith) _ _ c.in_ok-text.ensures.run
    (not_is_false _ (rw (c.as_slice.ensures, c.as_slice-2.ensures, c.due_bytes.ensures) at c.if-ne.ensures))
    c.if-text-gt-LONGEST_TEXT.true

pub returns-then-file-due-clause-run : goal.returns-then-file-due-clause-run
returns-then-file-due-clause-run g c =
    rw c.from-due.ensures
    (cut _ _ _ _ _ (rw c.in-Some.is at c.in_ok-file.ensures) _ _ c.in_ok-read_at.ensures.came
    (omega arith) _ _ c.in_ok-text.ensures.run
    (not_is_false _ (rw (c.as_slice.ensures, c.as_slice-2.ensures, c.due_bytes.ensures) at c.if-ne.ensures))
    (omega arith) (omega arith))

pub returns-clause-run : goal.returns-clause-run
returns-clause-run g c =
    whole _ _ _ _ _ (rw c.in-Some.is at c.in_ok-file.ensures) _ _ c.in_ok-read_at.ensures.came
    (omega arith) _ _ c.in_ok-text.ensures.run
    (not_is_false _ (rw (c.as_slice.ensures, c.as_slice-2.ensures, c.due_bytes.ensures) at c.if-ne.ensures))
    (omega arith) (omega arith)

pub returns-clause-sized : goal.returns-clause-sized
returns-clause-sized g c =
    sized_on _ _ _ _ c.in_ok-text.ensures.run.quiet.unwritten.files
    (sized_on _ _ _ _ c.in_ok-read_at.ensures.came.quiet.unwritten.files
    (size_told _ _ _ _ (rw c.in-Some.is at c.in_ok-file.ensures)))

pub returns-clause-begins : goal.returns-clause-begins
returns-clause-begins g c =
    begun c.args.name.now c.read_at.new.into (store_of g.S.Store c.args.store.now)
    (store_of g.S.Store c.size_of.new.store) (store_of g.S.Store c.read_at.new.store)
    c.in_ok-file.ensures.quiet.unwritten.files c.in_ok-read_at.ensures.came
