use Rattle.std.proofs.Common.{◌≡◌, ◌*◌, ◌∙◌, length, arith}
use Rattle.std.proofs.lemmas.Result.{err_from_is_err_and}
use Rattle.frz_asks.proofs.Lemmas.{halt_first, run_none, run_on}
use Rattle.frz_table.specs.Asking.{next_count, next_piece, pushed}
use Rattle.frz_table.proofs.lists.read_piece.Goals as goal

pub returns-in_err-read_at-clause-halted : goal.returns-in_err-read_at-clause-halted
unfolding next_piece
returns-in_err-read_at-clause-halted g c =
    let l : c.len.result ≡ length c.args.list.now.items =
    omega (arith, c.len.ensures, c.args.list.now.ok) in
    let p = err_from_is_err_and c.from_residual.result c.from_residual.ensures.1 in
    rw (p.1, p.2)
    (halt_first (pushed c.args.count c.args.list.now.items)
    (rw (l, c.requires.buffer) at c.in_err-read_at.ensures.halted))

pub returns-clause-ran : goal.returns-clause-ran
unfolding next_piece
returns-clause-ran g c =
    let l : c.len.result ≡ length c.args.list.now.items =
    omega (arith, c.len.ensures, c.args.list.now.ok) in
    let whole : length c.read_at.new.into ≡ 4 * next_count c.args.count c.args.list.now.items =
    c.read_at.auto.into ∙ c.requires.buffer in
    run_on (pushed c.args.count c.args.list.now.items)
    (rw (l, c.requires.buffer) at c.in_ok-read_at.ensures.came)
    (rw (c.push_numbers.ensures.numbers _ whole) (run_none _ _))
