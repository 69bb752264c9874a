use Rattle.std.proofs.Common.{refl, ℕ, List, arith}
use Rattle.std.proofs.lemmas.Result.{err_from_is_err_and}
use Rattle.frz_sets.specs.Views.{RuleLines}
use Rattle.frz_fen.specs.Reading.{fen_of}
use Rattle.frz_answer.specs.Jobs.{Job}
use Rattle.frz_prelude.specs.Positions.{on_position}
use Rattle.frz_prelude.specs.declared.reply.Reply.TheVariants as replies
use Rattle.frz_prelude.proofs.Lemmas.{at_position, no_position, not_taken, said_reply, stopped_reply, taken}
use Rattle.frz_commands_ask.specs.declared.bounds.Bounds.{Bounds}
use Rattle.frz_commands_ask.specs.Meaning.{solving_at}
use Rattle.frz_commands_ask.proofs.SolveEnds.{bounds_told, found_cause, not_found, own_found, own_stop, stopped_at}
use Rattle.frz_commands_ask.proofs.solving.solve.Goals as goal

abbrev by_words : List ℕ × List ℕ → Job
by_words words = on_position (solving_at words.0) (fen_of words.1)

pub returns-in_err-rules-clause-replies : goal.returns-in_err-rules-clause-replies
returns-in_err-rules-clause-replies g c =
    let p = err_from_is_err_and c.from_residual.result c.from_residual.ensures.1 in
    rw (p.1, p.2) (not_taken by_words _ c.in_err-rules.ensures)

pub returns-in_err-p-clause-replies : goal.returns-in_err-p-clause-replies
returns-in_err-p-clause-replies g c =
    let p = err_from_is_err_and c.from_residual-in_err-p.result
    c.from_residual-in_err-p.ensures.1 in
    rw (p.1, p.2)
    (taken by_words _ c.in_ok-rules.ensures
    (no_position (solving_at c.in_ok-rules.rules.now) _ c.in_err-p.ensures.found))

pub returns-in_err-lines-clause-replies : goal.returns-in_err-lines-clause-replies
returns-in_err-lines-clause-replies g c =
    let p = err_from_is_err_and c.from_residual-in_err-lines.result
    c.from_residual-in_err-lines.ensures.1 in
    let stop = c.in_err-lines.field-0.0 in
    let e = c.in_err-lines.ensures in
    rw (p.1, p.2)
    (taken by_words _ c.in_ok-rules.ensures
    (at_position (solving_at c.in_ok-rules.rules.now) _ c.in_ok-p.ensures.found
    (stopped_reply RuleLines _ stop _ _ _ _ e.quiet (omega arith) refl refl
    (own_stop _ stop e.read.due) e.cause
    (λ files left input out agrees. stopped_at _ _ stop files left _ _ e.read agrees))))

pub returns-in_err-bounds-clause-replies : goal.returns-in_err-bounds-clause-replies
returns-in_err-bounds-clause-replies g c =
    let p = err_from_is_err_and c.from_residual-in_err-bounds.result
    c.from_residual-in_err-bounds.ensures.1 in
    let stop = c.in_err-bounds.field-0.0 in
    let e = c.in_ok-lines.ensures in
    let found = c.in_err-bounds.ensures.found in
    rw (p.1, p.2)
    (taken by_words _ c.in_ok-rules.ensures
    (at_position (solving_at c.in_ok-rules.rules.now) _ c.in_ok-p.ensures.found
    (stopped_reply Bounds _ stop _ _ _ _ e.quiet c.bounds_by.ensures.later refl refl
    (own_found _ _ _ _ _ e.read stop found) (found_cause _ _ _ _ _ e.read stop found e.cause)
    (λ files left input out agrees. not_found _ _ _ _ _ e.read stop files left input out _ _ found
    agrees))))

pub returns-clause-replies : goal.returns-clause-replies
returns-clause-replies g c =
    let e = c.in_ok-lines.ensures in
    let bounds = c.in_ok-bounds.bounds in
    taken by_words _ c.in_ok-rules.ensures
    (at_position (solving_at c.in_ok-rules.rules.now) _ c.in_ok-p.ensures.found
    (said_reply _ (replies.Bounds bounds.white bounds.black) _ _ _ _ _ _ refl refl e.quiet e.cause
    c.bounds_by.ensures.later refl
    (λ files left input out agrees. bounds_told _ _ _ _ _ e.read bounds files left input out _ _
    c.in_ok-bounds.ensures.found agrees)))
