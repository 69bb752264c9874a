use Rattle.std.proofs.Common.{refl, sym, ap, ℕ, List, Result, arith, Option}
use Rattle.std.proofs.lemmas.Result.{err_from_is_err_and}
use Rattle.frz_fen.specs.Reading.{fen_of}
use Rattle.frz_table.specs.declared.kind.FileKind.{FileKind}
use Rattle.frz_answer.specs.Jobs.{Job}
use Rattle.frz_prelude.specs.Positions.{on_position}
use Rattle.frz_prelude.specs.declared.refused.Refused.{Refused as Refusal}
use Rattle.frz_prelude.specs.declared.reply.Reply.TheVariants.{Kept}
use Rattle.frz_prelude.proofs.Lemmas.{at_position, found_where, no_position, not_taken, said_reply, stopped_reply, taken}
use Rattle.frz_commands_ask.specs.declared.kept.KeptCodes.{KeptCodes}
use Rattle.frz_commands_ask.specs.Kept.{answer_by}
use Rattle.frz_commands_ask.specs.Querying.{querying_at}
use Rattle.frz_commands_ask.proofs.QueryEnds.{own_stop, stopped_at}
use Rattle.frz_commands_ask.proofs.querying.query_kind.Goals as goal

abbrev by_words : Option FileKind → List ℕ × List ℕ → Job
by_words kind words = on_position (querying_at kind words.0) (fen_of words.1)

pub returns-in_err-table-clause-replies : goal.returns-in_err-table-clause-replies
returns-in_err-table-clause-replies g c =
    let p = err_from_is_err_and c.from_residual.result c.from_residual.ensures.1 in
    rw (p.1, p.2) (λ steps. not_taken (by_words c.args.kind) _ c.in_err-table.ensures)

pub returns-in_err-p-clause-replies : goal.returns-in_err-p-clause-replies
returns-in_err-p-clause-replies g c =
    let p = err_from_is_err_and c.from_residual-in_err-p.result
    c.from_residual-in_err-p.ensures.1 in
    rw (p.1, p.2)
    (λ steps. taken (by_words c.args.kind) _ c.in_ok-table.ensures
    (no_position (querying_at c.args.kind c.in_ok-table.table.now) _ c.in_err-p.ensures.found))

pub returns-in_err-codes-clause-replies : goal.returns-in_err-codes-clause-replies
returns-in_err-codes-clause-replies g c =
    let p = err_from_is_err_and c.from_residual-in_err-codes.result
    c.from_residual-in_err-codes.ensures.1 in
    let stop = c.in_err-codes.field-0.0 in
    let e = c.in_err-codes.ensures in
    rw (p.1, p.2)
    (λ steps. taken (by_words c.args.kind) _ c.in_ok-table.ensures
    (at_position (querying_at c.args.kind c.in_ok-table.table.now) _ c.in_ok-p.ensures.found
    (stopped_reply KeptCodes _ stop _ _ _ _ e.quiet (omega arith) refl refl
    (own_stop c.args.kind c.in_ok-p.p _ stop e.kept.due) e.cause
    (λ files left input out agrees. stopped_at _ _ _ stop files left _ _ e.kept (omega arith)
    agrees))))

pub returns-clause-replies : goal.returns-clause-replies
returns-clause-replies g c =
    let e = c.in_ok-codes.ensures in
    let codes = c.in_ok-codes.codes in
    λ steps. taken (by_words c.args.kind) _ c.in_ok-table.ensures
    (at_position (querying_at c.args.kind c.in_ok-table.table.now) _ c.in_ok-p.ensures.found
    (said_reply _ (Kept codes.white codes.black) _ _ _ _ _ _ refl refl e.quiet e.cause
    (omega arith) refl
    (λ files left input out agrees. record {
      found = found_where (querying_at c.args.kind c.in_ok-table.table.now c.in_ok-p.p)
          e.kept.files files left _ (λ n. cc) e.kept.agrees agrees;
      answer = ap (λ (r : Result KeptCodes Refusal). answer_by r e.kept.files) (sym e.kept.due);
      costs = record { steps = omega arith; calls = e.kept.calls; asked = e.kept.asked };
    })))
