use Rattle.std.proofs.Common.{◌≡◌, ◌∙◌, ◌++◌, refl, sym, map, subst, Bool, true, false, ℕ, List, Option, Ok, arith}
use Rattle.std.specs.Prelude.{codes}
use Rattle.frz_store.specs.Outside.{Rose}
use Rattle.frz_store.specs.Told.{SourceTold, source_of, sink_of}
use Rattle.frz_answer.specs.Texts.{FailedWithin, TookText}
use Rattle.frz_commands_inquiry.specs.LinesTaken.{TakesLine}
use Rattle.frz_commands_inquiry.specs.declared.inquiring.Halt.{Halt}
use Rattle.frz_commands_inquiry.specs.declared.inquiring.Reader.{Reader}
use Rattle.frz_atlas.specs.FileOn.{loaded_back}
use Rattle.frz_atlas.specs.Loaded.{link_loaded}
use Rattle.frz_commands_inquiry.specs.Places.{reply_to}
use Rattle.frz_commands_inquiry.proofs.AnsweredOn.{answered_more, input_failed, no_more_lines, none_answered, output_failed}
use Rattle.frz_commands_inquiry.proofs.inquiring.answer_lines.Goals as goal

not_both : (b : Bool) → b ≡ false → b ≡ true → ⊥
not_both b e f = let no : true ≡ false = sym f ∙ e in cc

-- what was taken, as it was matched
taken_as : {old new : Reader} {o p : Option Halt} {line : List ℕ} {source left : SourceTold}
    → o ≡ p → TakesLine old new (Ok o) line source left → TakesLine old new (Ok p) line source left
taken_as {old} {new} {o} {p} {line} {source} {left} e t =
    subst (λ (x : Option Halt). TakesLine old new (Ok x) line source left) e t

pub lines-init : goal.lines-init
lines-init g c = record {
  far = none_answered (reply_to (link_loaded c.args.own.now) (map loaded_back c.args.backs.now))
      c.new-reader.result c.new-reader.ensures.more
      (not_both c.new-reader.result.ended c.new-reader.ensures.ended)
      (source_of g.I.Source c.args.input.now) (sink_of g.O.Sink c.args.out.now);
  faults = refl;
}

pub returns-in_default-clause-inquired : goal.returns-in_default-clause-inquired
returns-in_default-clause-inquired g c =
    input_failed _ c.lines.invariant.far c.in_default.ensures.taken

pub returns-in_default-clause-cause : goal.returns-in_default-clause-cause
returns-in_default-clause-cause g c =
    let cause = c.in_default.ensures.cause in
    let same = c.lines.invariant.faults in
    record {
      later = (let later = cause.later in omega (arith, later, same));
      rose = subst (λ n. Rose n (g.I.Source.faults c.next_line.new.input)) same cause.failed;
    }

pub returns-in-Some-clause-inquired : goal.returns-in-Some-clause-inquired
returns-in-Some-clause-inquired g c =
    no_more_lines _ c.lines.invariant.far (taken_as c.in-Some.is c.in-Ok.ensures.taken)

pub returns-in-Some-clause-cause : goal.returns-in-Some-clause-cause
returns-in-Some-clause-cause g c = c.in-Ok.ensures.cause.fine ∙ c.lines.invariant.faults

pub lines-preserved : goal.lines-preserved
lines-preserved g c =
    let reply = reply_to (link_loaded c.args.own.now) (map loaded_back c.args.backs.now) in
    record {
      far = answered_more reply c.lines.invariant.far
          (taken_as c.in_default-next.is c.in-Ok.ensures.taken)
          (subst (λ (l : List ℕ). TookText (reply l ++ codes "\n") (sink_of g.O.Sink c.lines.out)
          (sink_of g.O.Sink c.write_reply.new.out)) c.as_slice.ensures.value
          c.in-Ok-write_reply.ensures.ok);
      faults = c.in-Ok.ensures.cause.fine ∙ c.lines.invariant.faults;
    }

pub returns-in_default-write_reply-clause-inquired :
    goal.returns-in_default-write_reply-clause-inquired
returns-in_default-write_reply-clause-inquired g c =
    let reply = reply_to (link_loaded c.args.own.now) (map loaded_back c.args.backs.now) in
    output_failed reply c.lines.invariant.far
    (taken_as c.in_default-next.is c.in-Ok.ensures.taken)
    (subst (λ (l : List ℕ). FailedWithin (reply l ++ codes "\n") (sink_of g.O.Sink c.lines.out)
    (sink_of g.O.Sink c.write_reply.new.out)) c.as_slice.ensures.value
    c.in_default-write_reply.ensures.failed)

pub returns-in_default-write_reply-clause-cause : goal.returns-in_default-write_reply-clause-cause
returns-in_default-write_reply-clause-cause g c =
    c.in-Ok.ensures.cause.fine ∙ c.lines.invariant.faults
