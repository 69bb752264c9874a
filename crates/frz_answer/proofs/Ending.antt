-- The ends of a command: at a fault before it wrote anything, or with the last of its lines.
use Rattle.std.proofs.Common.{◌≡◌, ◌⊎◌, inl, inr, refl, sym, ap, subst, ◌∙◌, ℕ, ◌≤◌, List, [], ◌++◌, take, drop, false, IsTrue, Option, arith, append_assoc}
use Rattle.std.specs.Option.{option_map}
use Rattle.std.proofs.lemmas.List.{take-append-drop}
use Rattle.std.specs.Io.KnownBytes.{append_known}
use Rattle.frz_store.specs.Files.{Files}
use Rattle.frz_store.specs.Outside.{Rose}
use Rattle.frz_store.specs.Told.{SinkTold, Unwritten}
use Rattle.frz_store.specs.declared.outside.StoreFault.{StoreFault}
use Rattle.frz_store.specs.declared.outside.StoreFault.TheVariants as refusals
use Rattle.frz_answer.specs.declared.status.Status.{Status}
use Rattle.frz_answer.specs.declared.fault.Fault.{Fault}
use Rattle.frz_answer.specs.declared.fault.Fault.TheVariants as faults
use Rattle.frz_answer.specs.declared.end.End.{End}
use Rattle.frz_answer.specs.declared.end.End.TheVariants.{Done, SinkFault, Stopped}
use Rattle.frz_answer.specs.Statuses.{OneOf, end_of_fault}
use Rattle.frz_answer.specs.Texts.{TookText, FailedWithin}
use Rattle.frz_answer.specs.World.{World, Agrees, Later, Fine, Quiet, spent}
use Rattle.frz_answer.specs.Answers.{Answer, says, SomeAnswer, held, NoMore}
use Rattle.frz_answer.specs.Jobs.{Job, Never}
use Rattle.frz_answer.specs.Ends.{MayMeet, MayHaveWritten, WritesOnly, Leaves, Answered, Ran, Said}
use Rattle.frz_answer.proofs.Telling.{agreed, drop_none, append_nothing, append_twice}
use Rattle.frz_answer.proofs.Worlds.{only_unwritten, risen_later, given_part}

-- some files and some input that agree with what is told; what
-- the job does not look at is as it was given
pub record Found (job : Job) (free_files : Files) (free_input : List ℕ) (old : World) : Type 0 where
  pub files : Files
  pub input : List ℕ
  pub agrees : Agrees old files input
  pub free : job.needs.reads ≡ Never → files ≡ free_files
  pub untaken : job.needs.input ≡ false → input ≡ free_input

-- the files and the input that were given
abbrev pub as_given : (job : Job) (files : Files) (input : List ℕ) (old : World)
    → Agrees old files input → Found job files input old
as_given job files input old agrees =
    record { files = files; input = input; agrees = agrees; free = λ _. refl; untaken = λ _. refl }

-- an answer over what was found, of which so much was given
pub answered_over : {job : Job} {files : Files} {input : List ℕ} {end : End} {old new : World}
    → (found : Found job files input old) (a : Answer) → job.answers found.files found.input a
    → Leaves end a old new → job.costs found.files found.input a (spent old) (spent new)
    → Answered job files input end old new
answered_over found a answer leaves costs = record {
  files = found.files;
  input = found.input;
  agrees = found.agrees;
  free = found.free;
  untaken = found.untaken;
  a = a;
  answer = answer;
  leaves = leaves;
  costs = costs;
}

-- there is an answer over what was found, with some text, and no more was done than it says
pub record Doing (job : Job) (files : Files) (input : List ℕ) (old new : World) : Type 0 where
  pub found : Found job files input old
  pub some : SomeAnswer (job.answers found.files found.input)
  pub others : NoMore some.a old new
  pub costs : job.costs found.files found.input some.a (spent old) (spent new)

-- a fault before any text was written
pub stopped_doing : (job : Job) (fault : Fault) (old new : World) → Later old new
    → MayMeet job fault old new → WritesOnly job.writes old.store new.store
    → ((MayHaveWritten (Stopped fault) → ⊥) → Unwritten old.store new.store)
    → new.out.taken ≡ old.out.taken
    → ((files : Files) (input : List ℕ) → Agrees old files input
    → Doing job files input old new) → Ran job (Stopped fault) old new
stopped_doing job fault old new later meets only unwritten same doing =
    let text : new.out.taken ≡ append_known old.out.taken [] = same
    ∙ append_nothing old.out.taken in
    record {
      later = later;
      may = meets;
      lines = (record { lines = []; whole = inl refl; text = text }, λ _. same);
      only = only;
      unwritten = unwritten;
      room = tt;
      answered = λ files input agrees.
          let here = doing files input agrees in
          answered_over here.found here.some.a here.some.answer
          (record {
            lines = [];
            rest = here.some.a.text;
            whole = inl refl;
            begins = refl;
            more = here.some.text;
            text = text;
            others = here.others;
          }) here.costs;
    }

-- an answer over them with some text, where nothing but steps and calls was spent so far
pub record Begun (job : Job) (files : Files) (input : List ℕ) (old new : World) : Type 0 where
  pub found : Found job files input old
  pub some : SomeAnswer (job.answers found.files found.input)
  pub costs : job.costs found.files found.input some.a (spent old) (spent new)

nothing_done : (a : Answer) (old new : World) → Quiet old new → NoMore a old new
nothing_done a old new quiet = record {
  files = λ name. inl (ap (λ (o : Option Files). held o name) quiet.store.files);
  left = (0, omega arith, quiet.left ∙ drop_none old.input.left);
}

-- a fault before anything was written
pub stopped : (job : Job) (fault : Fault) (old new : World) → Quiet old new
    → MayMeet job fault old new
    → ((files : Files) (input : List ℕ) → Agrees old files input
    → Begun job files input old new) → Ran job (Stopped fault) old new
stopped job fault old new quiet meets begun =
    stopped_doing job fault old new quiet.later meets
    (only_unwritten job.writes old.store new.store quiet.store) (λ _. quiet.store) quiet.taken
    (λ files input agrees.
    let here = begun files input agrees in
    record {
      found = here.found;
      some = here.some;
      others = nothing_done here.some.a old new quiet;
      costs = here.costs;
    })

-- a refusal of the store before anything was written
pub refused : (job : Job) (refusal : StoreFault) (end : End) (old new : World)
    → end ≡ end_of_fault refusal → Quiet old new
    → IsTrue job.needs.store → IsTrue job.needs.memory
    → (refusal ≡ refusals.Failed → Rose old.store.faults new.store.faults)
    → ((files : Files) (input : List ℕ) → Agrees old files input
    → Begun job files input old new) → Ran job end old new
refused job refusals.Failed end old new e quiet asks wants rose begun =
    subst (λ (x : End). Ran job x old new) (sym e)
    (stopped job faults.Store old new quiet (asks, rose refl) begun)
refused job refusals.NoMemory end old new e quiet asks wants rose begun =
    subst (λ (x : End). Ran job x old new) (sym e)
    (stopped job faults.NoMemory old new quiet wants begun)

-- an answer whose text is what was written before, and then this line
pub record Closes (job : Job) (status : Status) (line : List ℕ) (files : Files) (input : List ℕ)
    (old mid : World) : Type 0 where
  pub found : Found job files input old
  pub a : Answer
  pub answer : job.answers found.files found.input a
  pub status_is : a.status ≡ status
  pub given : mid.store.files ≡ option_map (λ _. a.files) old.store.files
  pub left : mid.input.left ≡ option_map (drop a.taken) old.input.left
  pub lines : List ℕ
  pub before : mid.out.taken ≡ append_known old.out.taken lines
  pub text : lines ++ line ≡ a.text
  pub costs : job.costs found.files found.input a (spent old) (spent mid)

module _ (job : Job) (status : Status) (line : List ℕ) (old mid : World) (out : SinkTold) where
  no_more : (a : Answer) → mid.store.files ≡ option_map (λ _. a.files) old.store.files
      → mid.input.left ≡ option_map (drop a.taken) old.input.left
      → NoMore a old (record mid { out = out })
  no_more a files left =
      record {
        files = λ name. given_part a name old.store.files mid.store.files files;
        left = (a.taken, omega arith, left);
      }

  -- the line ends the text of an answer, whose files were written and whose input was taken before
  pub closed : (end : End) → Later old mid → Fine old mid
      → WritesOnly job.writes old.store mid.store → (old.store.room ≡ 0 → mid.store.room ≡ 0)
      → ((MayHaveWritten (Done status) → ⊥) → Unwritten old.store mid.store)
      → OneOf status job.statuses → Said status line end mid.out out
      → ((files : Files) (input : List ℕ) → Agrees old files input
      → Closes job status line files input old mid) → Ran job end old (record mid { out = out })
  closed end later fine only room unwritten one said closes = by_end said.says
    where
      later_new : mid.out.faults ≤ out.faults → Later old (record mid { out = out })
      later_new more = record {
        store = later.store;
        input = later.input;
        out = (let a = later.out in omega (arith, a, more));
        steps = later.steps;
      }

      by_end : ((end ≡ Done status) × TookText line mid.out out)
          ⊎ ((end ≡ SinkFault) × FailedWithin line mid.out out)
          → Ran job end old (record mid { out = out })
      by_end (inl done) =
          subst (λ e. Ran job e old (record mid { out = out })) (sym done.0) (record {
            later = later_new (let same = done.1.faults in omega (arith, same));
            may = (
              one,
              record {
                store = fine.store;
                input = fine.input;
                out = done.1.faults
                    ∙ fine.out;
              },
            );
            lines = tt;
            only = only;
            unwritten = unwritten;
            room = room;
            answered = λ files input agrees.
                let here = closes files input agrees in
                answered_over here.found here.a here.answer (
                  here.status_is,
                  record {
                    files = here.given;
                    left = here.left;
                    text = done.1.taken ∙ ap (λ o. append_known o line) here.before
                        ∙ append_twice old.out.taken here.lines line
                        ∙ ap (append_known old.out.taken) here.text;
                  },
                ) here.costs;
          })
      by_end (inr cut) =
          let k = cut.1.taken.0 in
          subst (λ e. Ran job e old (record mid { out = out })) (sym cut.0) (record {
            later = later_new cut.1.later;
            may = risen_later old.out.faults mid.out.faults out.faults later.out cut.1.rose;
            lines = tt;
            only = only;
            unwritten = λ none. absurd (none tt);
            room = tt;
            answered = λ files input agrees.
                let here = closes files input agrees in
                answered_over here.found here.a here.answer
                (record {
                  written = here.lines ++ take k line;
                  rest = drop k line;
                  begins = append_assoc here.lines (take k line) (drop k line)
                      ∙ ap (λ (l : List ℕ). here.lines ++ l) (take-append-drop k line) ∙ here.text;
                  text = cut.1.taken.1 ∙ ap (λ o. append_known o (take k line)) here.before
                      ∙ append_twice old.out.taken here.lines (take k line);
                  others = no_more here.a here.given here.left;
                }) here.costs;
          })

-- an answer over them that is one text, and says that no file changes
pub record SaysAll (job : Job) (status : Status) (line : List ℕ) (files : Files) (input : List ℕ)
    (old mid : World) : Type 0 where
  pub found : Found job files input old
  pub answer : job.answers found.files found.input (says status line found.files)
  pub costs : job.costs found.files found.input (says status line found.files) (spent old)
      (spent mid)

-- the line is the whole text, and nothing was written before
pub said : (job : Job) (status : Status) (line : List ℕ) (end : End) (old mid : World)
    (out : SinkTold) → Quiet old mid → Fine old mid → OneOf status job.statuses
    → Said status line end mid.out out
    → ((files : Files) (input : List ℕ) → Agrees old files input
    → SaysAll job status line files input old mid) → Ran job end old (record mid { out = out })
said job status line end old mid out quiet fine one says_it answers =
    closed job status line old mid out end quiet.later fine
    (only_unwritten job.writes old.store mid.store quiet.store) (λ none. quiet.store.room ∙ none)
    (λ _. quiet.store) one says_it
    (λ files input agrees.
    let here = answers files input agrees in record {
      found = here.found;
      a = says status line here.found.files;
      answer = here.answer;
      status_is = refl;
      given = quiet.store.files ∙ agreed old.store.files here.found.files here.found.agrees.store;
      left = quiet.left ∙ drop_none old.input.left;
      lines = [];
      before = quiet.taken ∙ append_nothing old.out.taken;
      text = refl;
      costs = here.costs;
    })
