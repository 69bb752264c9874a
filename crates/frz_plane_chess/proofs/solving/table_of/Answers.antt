use Rattle.std.proofs.Common.{Result, Ok, Err}
use Rattle.std.specs.Result.{IfOk}
use Rattle.frz_sweep.proofs.Lemmas.{table_of_codes}
use Rattle.frz_plane_chess.proofs.solving.table_of.Goals as goal

-- what is said of an answer in two clauses, said in one
if_both : {T E : Type 0} (P Q R : T → Type 0) → ((x : T) → P x → Q x → R x) → (r : Result T E) →
    IfOk r P → IfOk r Q → IfOk r R
if_both P Q R f (Ok x) p q = f x p q
if_both P Q R f (Err e) p q = tt

pub returns : goal.returns
returns g c =
    let game = c.args.game.now in
    if_both _ _ _
    (λ codes many at. table_of_codes game.configurations.now.rules.now
    (g.B.ExitBook.value_at game.book.now) c.args.side codes.items many at)
    c.solve.result c.solve.ensures.many c.solve.ensures.codes
