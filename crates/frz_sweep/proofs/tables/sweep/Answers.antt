use Rattle.std.proofs.Common.{Result, Ok, Err}
use Rattle.std.specs.Result.{IfOk}
use Rattle.frz_game.proofs.Lemmas.{finite}
use Rattle.frz_sweep.proofs.BoundCodes.{table_of_codes}
use Rattle.frz_sweep.proofs.tables.sweep.Goals as goal

-- what is said of an answer in two clauses, said in one
if_both : {T E : Type 0} (P Q R : T → Type 0) → ((x : T) → P x → Q x → R x) → (r : Result T E) →
    IfOk r P → IfOk r Q → IfOk r R
if_both P Q R f (Ok x) p q = f x p q
if_both P Q R f (Err e) p q = tt

pub solve-requires : goal.solve-requires
solve-requires g c =
    let game = c.args.game.now in
    finite game.rules.now (g.B.ExitBook.value_at game.book.now)
    (g.met.B.ExitBook.small game.book.now) c.requires.size

pub returns-clause-table : goal.returns-clause-table
returns-clause-table g c =
    let game = c.args.game.now in
    if_both _ _ _
    (λ codes many at. table_of_codes game.rules.now (g.B.ExitBook.value_at game.book.now)
    c.args.side codes.items many at)
    c.solve.result c.solve.ensures.many c.solve.ensures.codes
