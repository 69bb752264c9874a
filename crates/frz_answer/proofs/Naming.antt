-- A command that writes one name.
use Rattle.std.proofs.Common.{◌≡◌, refl, sym, subst, ℕ, ◌≤◌, List, [], Option, Some, Err, IsTrue, arith, ◌∙◌}
use Rattle.frz_store.specs.Files.{Files, put}
use Rattle.frz_store.specs.Outside.{Rose}
use Rattle.frz_store.specs.Told.{SinkTold, StoreTold, StoreLater, StoreFine}
use Rattle.frz_store.specs.Writes.{Wrote, WrotePart, Written}
use Rattle.frz_store.specs.declared.outside.StoreFault.{StoreFault}
use Rattle.frz_store.specs.declared.outside.StoreFault.TheVariants as refusals
use Rattle.frz_store.proofs.Lemmas.{all_written}
use Rattle.frz_answer.specs.declared.status.Status.TheVariants as statuses
use Rattle.frz_answer.specs.declared.fault.Fault.TheVariants as faults
use Rattle.frz_answer.specs.declared.end.End.{End}
use Rattle.frz_answer.specs.declared.end.End.TheVariants.{Stopped}
use Rattle.frz_answer.specs.Statuses.{OneOf, end_of_fault}
use Rattle.frz_answer.specs.World.{World, Agrees, Later, spent}
use Rattle.frz_answer.specs.Answers.{says, SomeAnswer}
use Rattle.frz_answer.specs.Jobs.{Job}
use Rattle.frz_answer.specs.Ends.{WritesOnly, Ran, Said}
use Rattle.frz_answer.proofs.Ending.{Found, stopped, stopped_doing, closed}
use Rattle.frz_answer.proofs.Telling.{drop_none, append_nothing}
use Rattle.frz_answer.proofs.Worlds.{later_same}
use Rattle.frz_answer.proofs.Writing.{part_only, part_given, whole_given}

-- an answer that gives the name these bytes, and changes nothing else
pub record GivesName (job : Job) (name whole : List ℕ) (files : Files) (input : List ℕ)
    (old new : World) : Type 0 where
  pub found : Found job files input old
  pub some : SomeAnswer (job.answers found.files found.input)
  pub given : some.a.files ≡ put found.files name whole
  pub costs : job.costs found.files found.input some.a (spent old) (spent new)

-- the line that is said when all is written
pub record SaysName (job : Job) (line name whole : List ℕ) (files : Files) (input : List ℕ)
    (old new : World) : Type 0 where
  pub found : Found job files input old
  pub answer : job.answers found.files found.input
      (says statuses.Success line (put found.files name whole))
  pub costs : job.costs found.files found.input
      (says statuses.Success line (put found.files name whole)) (spent old) (spent new)

-- a command that writes one name, and has made steps but done nothing else yet
module _ (job : Job) (name whole : List ℕ) (old : World) (store : StoreTold) (steps : ℕ)
    (more : old.steps ≤ steps) (asks : IsTrue job.needs.store)
    (writes : Some name ≡ job.writes) where
  -- when the store was written
  abbrev mid : World
  mid = record old { store = store; steps = steps }

  store_later : StoreLater old.store store → Later old mid
  store_later later = let same = later_same old in
      record { store = later; input = same.input; out = same.out; steps = more }

  only_it : WrotePart name whole old.store store → WritesOnly job.writes old.store store
  only_it part = subst (λ (w : Option (List ℕ)). WritesOnly w old.store store) writes
      (part_only name whole old.store store part)

  -- the store failed within the bytes
  pub failed_within : Rose old.store.faults store.faults → WrotePart name whole old.store store
      → ((files : Files) (input : List ℕ) → Agrees old files input
      → GivesName job name whole files input old mid)
      → Ran job (Stopped faults.Store) old mid
  failed_within rose part gives =
      stopped_doing job faults.Store old mid (store_later part.later) (asks, rose) (only_it part)
      (λ none. absurd (none tt)) refl
      (λ files input agrees.
      let here = gives files input agrees in record {
        found = here.found;
        some = here.some;
        others = record {
          files = part_given name whole here.found.files old.store store here.some.a here.given
              part;
          left = (0, omega arith, drop_none old.input.left);
        };
        costs = here.costs;
      })

  -- not all of the bytes were written: the store failed, or there was no memory
  pub not_written : (T : Type 0) (refusal : StoreFault) (end : End) → end ≡ end_of_fault refusal
      → IsTrue job.needs.memory
      → Written {T = T} name whole (Err refusal) old.store store
      → ((files : Files) (input : List ℕ) → Agrees old files input
      → GivesName job name whole files input old mid)
      → Ran job end old mid
  not_written T refusals.NoMemory end e wants quiet gives =
      subst (λ (x : End). Ran job x old mid) (sym e)
      (stopped job faults.NoMemory old mid
      (record {
        later = store_later quiet.later;
        store = quiet.unwritten;
        left = refl;
        taken = refl;
      }) wants
      (λ files input agrees. let here = gives files input agrees in
      record { found = here.found; some = here.some; costs = here.costs }))
  not_written T refusals.Failed end e wants part gives =
      subst (λ (x : End). Ran job x old mid) (sym e) (failed_within part.1 part.0 gives)

  -- all of the bytes were written, and the line is the whole text
  pub wrote_it : (line : List ℕ) (end : End) (out : SinkTold) → OneOf statuses.Success job.statuses
      → Wrote name whole old.store store → StoreFine old.store store → store.room ≡ 0
      → Said statuses.Success line end old.out out
      → ((files : Files) (input : List ℕ) → Agrees old files input
      → SaysName job line name whole files input old mid)
      → Ran job end old (record mid { out = out })
  wrote_it line end out one wrote fine full says_it answers =
      let part = all_written name whole old.store store wrote in
      closed job statuses.Success line old mid out end (store_later wrote.later)
      (record { store = fine; input = refl; out = refl })
      (only_it part) (λ _. full) (λ none. absurd (none tt)) one says_it
      (λ files input agrees.
      let here = answers files input agrees in record {
        found = here.found;
        a = says statuses.Success line (put here.found.files name whole);
        answer = here.answer;
        status_is = refl;
        given = wrote.files ∙ whole_given name whole here.found.files old.store.files
            here.found.agrees.store;
        left = drop_none old.input.left;
        lines = [];
        before = append_nothing old.out.taken;
        text = refl;
        costs = here.costs;
      })
