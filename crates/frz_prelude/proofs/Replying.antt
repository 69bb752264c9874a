-- The reply of a command: nothing was done but calls and steps, or a name was written.
use Rattle.std.proofs.Common.{◌≡◌, refl, sym, subst, ℕ, ◌≤◌, List, Some, Result, Ok, Err, IsTrue, arith}
use Rattle.frz_store.specs.Files.{Files}
use Rattle.frz_store.specs.Told.{StoreTold, SourceTold, SinkTold, StoreFine, StoreQuiet}
use Rattle.frz_store.specs.Writes.{Wrote, Written}
use Rattle.frz_store.specs.declared.outside.StoreFault.{StoreFault}
use Rattle.frz_store.specs.declared.outside.StoreFault.TheVariants as refusals
use Rattle.frz_answer.specs.declared.end.End.{End}
use Rattle.frz_answer.specs.declared.fault.Fault.TheVariants.{NoMemory}
use Rattle.frz_answer.specs.declared.status.Status.{Status}
use Rattle.frz_answer.specs.declared.status.Status.TheVariants.{Success}
use Rattle.frz_answer.specs.Ends.{Ran, Said}
use Rattle.frz_answer.specs.Statuses.{OneOf, end_of_fault}
use Rattle.frz_answer.specs.World.{world, Agrees}
use Rattle.frz_answer.specs.Jobs.{Job}
use Rattle.frz_answer.proofs.Lemmas.{Begun, GivesName, IsStage, SaysAll, SaysName, Stages, as_given, fine_same, fine_steps, fine_store, not_written, quiet_both, quiet_same, quiet_steps, said, through, wrote_it}
use Rattle.frz_prelude.specs.Refusals.{refusing_named, status_of}
use Rattle.frz_prelude.specs.Replies.{Replies, reply_status, text_of}
use Rattle.frz_prelude.specs.Stops.{EndsBy, HasItsCause, stop_of_fault}
use Rattle.frz_prelude.specs.declared.refused.Refused.{Refused as Refusal}
use Rattle.frz_prelude.specs.declared.reply.Reply.{Reply}
use Rattle.frz_prelude.specs.declared.stop.Stop.{Stop}
use Rattle.frz_prelude.specs.declared.stop.Stop.TheVariants.{Refused, Fault}
use Rattle.frz_prelude.proofs.Stopping.{StopsWith, as_said, ended, may_stop, own_status}

-- to refuse what the words name, with nothing done
pub refused_reply : (why : Refusal) (store : StoreTold) (steps : ℕ)
    → Replies (refusing_named why) (Err (Refused why)) store store steps steps
refused_reply why store steps = record {
  ran = λ input out after end told.
      ended (refusing_named why) (Refused why) end (world _ _ _ _) _ after (quiet_same _)
      (own_status why, fine_same _) told
      (λ files left agrees. record {
        found = as_given _ files left _ agrees;
        answer = refl;
        costs = record { steps = omega arith; calls = omega arith; asked = omega arith };
      });
}

-- a text is said that is an answer
pub said_reply : (job : Job) (reply : Reply) (status : Status) (line : List ℕ) (old new : StoreTold)
    (before now : ℕ) → reply_status reply ≡ status → text_of reply ≡ line
    → StoreQuiet old new → StoreFine old new → before ≤ now → OneOf status job.statuses
    → ((files : Files) (left : List ℕ) (input : SourceTold) (out : SinkTold)
    → Agrees (world old input out before) files left
    → SaysAll job status line files left (world old input out before) (world new input out now))
    → Replies job (Ok reply) old new before now
said_reply job reply status line old new before now status_is text_is quiet fine later own answers =
    record {
      ran = λ input out after end told.
          said job status line end (world _ _ _ _) (world _ _ _ _) after
          (quiet_both old new input out before now quiet later)
          (fine_store old new input out before now fine) own
          (as_said _ _ _ _ end out after status_is text_is told)
          (λ files left agrees. answers files left input out agrees);
    }

-- the same by a command that takes no file
pub replied : (job : Job) (reply : Reply) (store : StoreTold) (before now : ℕ) → before ≤ now
    → OneOf (reply_status reply) job.statuses
    → ((files : Files) (left : List ℕ) (input : SourceTold) (out : SinkTold)
    → Agrees (world store input out before) files left
    → SaysAll job (reply_status reply) (text_of reply) files left (world store input out before)
    (world store input out now))
    → Replies job (Ok reply) store store before now
replied job reply store before now later own answers = record {
  ran = λ input out after end told.
      said job (reply_status reply) (text_of reply) end (world _ _ _ _) (world _ _ _ _) after
      (quiet_steps store input out before now later) (fine_steps store input out before now) own
      told (λ files left agrees. answers files left input out agrees);
}

-- something stopped the call
pub stopped_reply : (A : Type 0) (job : Job) (stop : Stop) (old new : StoreTold) (before now : ℕ)
    → StoreQuiet old new → before ≤ now → IsTrue job.needs.store → IsTrue job.needs.memory
    → ((why : Refusal) → stop ≡ Refused why → OneOf (status_of why) job.statuses)
    → HasItsCause {A = A} (Err stop) old new
    → ((files : Files) (left : List ℕ) (input : SourceTold) (out : SinkTold)
    → Agrees (world old input out before) files left
    → StopsWith job stop files left (world old input out before) (world new input out now))
    → Replies job (Err stop) old new before now
stopped_reply A job stop old new before now quiet later asks wants own cause answers = record {
  ran = λ input out after end told.
      ended job stop end (world _ _ _ _) (world _ _ _ _) after
      (quiet_both old new input out before now quiet later)
      (may_stop A job stop old new input out before now asks wants own cause) told
      (λ files left agrees. answers files left input out agrees);
}

-- a stage was done, after calls and steps alone
pub through_reply : (part whole : Job) (reply : Result Reply Stop) (old mid new : StoreTold)
    (before then now : ℕ) → StoreQuiet old mid → StoreFine old mid → before ≤ then
    → IsStage part whole
    → ((files : Files) (left : List ℕ) (input : SourceTold) (out after : SinkTold)
    → Agrees (world old input out before) files left
    → Stages part whole files left (world old input out before) (world mid input out then)
    (world new input after now))
    → Replies part reply mid new then now → Replies whole reply old new before now
through_reply part whole reply old mid new before then now quiet fine later stage stages done =
    record {
      ran = λ input out after end told.
          through part whole (world _ _ _ _) (world _ _ _ _) (world _ _ _ _)
          (quiet_both old mid input out before then quiet later)
          (fine_store old mid input out before then fine) stage end
          (λ files left agrees. stages files left input out after agrees)
          (done.ran input out after end told);
    }

-- all of the bytes of a name were written
pub wrote_reply : (job : Job) (reply : Reply) (name whole : List ℕ) (old new : StoreTold)
    (before now : ℕ) → reply_status reply ≡ Success → before ≤ now → IsTrue job.needs.store
    → Some name ≡ job.writes → OneOf Success job.statuses → Wrote name whole old new
    → StoreFine old new → new.room ≡ 0
    → ((files : Files) (left : List ℕ) (input : SourceTold) (out : SinkTold)
    → Agrees (world old input out before) files left
    → SaysName job (text_of reply) name whole files left (world old input out before)
    (world new input out now))
    → Replies job (Ok reply) old new before now
wrote_reply job reply name whole old new before now success later asks writes own wrote fine full
    answers = record {
      ran = λ input out after end told.
          wrote_it job name whole (world old input out before) new now later asks writes
          (text_of reply) end after own wrote fine full
          (subst (λ s. Said s (text_of reply) end out after) success told)
          (λ files left agrees. answers files left input out agrees);
    }

-- not all of them were written
pub not_written_reply : (T : Type 0) (job : Job) (refusal : StoreFault) (name whole : List ℕ)
    (old new : StoreTold) (before now : ℕ) → before ≤ now → IsTrue job.needs.store
    → IsTrue job.needs.memory → Some name ≡ job.writes
    → Written {T = T} name whole (Err refusal) old new
    → ((files : Files) (left : List ℕ) (input : SourceTold) (out : SinkTold)
    → Agrees (world old input out before) files left
    → GivesName job name whole files left (world old input out before) (world new input out now))
    → Replies job (Err (stop_of_fault refusal)) old new before now
not_written_reply T job refusal name whole old new before now later asks wants writes written
    gives = record {
      ran = λ input out after end told.
          let ends = by_refusal refusal end out after told in
          subst (λ (o : SinkTold). Ran job end (world old input out before) (world new input o now))
          (sym ends.1)
          (not_written job name whole (world old input out before) new now later asks writes T
          refusal end ends.0 wants written
          (λ files left agrees. gives files left input out agrees));
    }
  where
    by_refusal : (refusal : StoreFault) (end : End) (out after : SinkTold)
        → EndsBy (stop_of_fault refusal) end out after
        → (end ≡ end_of_fault refusal) × (after ≡ out)
    by_refusal refusals.Failed end out after told = told
    by_refusal refusals.NoMemory end out after told = told

-- there was no memory, and nothing was done
pub no_memory_reply : (job : Job) (store : StoreTold) (steps : ℕ) → IsTrue job.needs.memory
    → ((files : Files) (left : List ℕ) (input : SourceTold) (out : SinkTold)
    → Agrees (world store input out steps) files left
    → Begun job files left (world store input out steps) (world store input out steps))
    → Replies job (Err (Fault NoMemory)) store store steps steps
no_memory_reply job store steps wants begun = record {
  ran = λ input out after end told.
      ended job (Fault NoMemory) end (world _ _ _ _) _ after (quiet_same _) wants told
      (λ files left agrees. begun files left input out agrees);
}
