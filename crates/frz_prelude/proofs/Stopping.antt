-- How a job ends that was stopped before it came to its own work.
use Rattle.std.proofs.Common.{◌≡◌, refl, sym, subst, ℕ, List, [], ◌∷◌, Result, Ok, Err, IsTrue, codes}
use Rattle.frz_store.specs.Bytes.{MayBeHeld}
use Rattle.frz_store.specs.Files.{Files}
use Rattle.frz_store.specs.Told.{StoreTold, SourceTold, SinkTold, StoreFine}
use Rattle.frz_answer.specs.declared.fault.Fault.{Fault as Faults}
use Rattle.frz_answer.specs.declared.fault.Fault.TheVariants as faults
use Rattle.frz_answer.specs.declared.end.End.{End}
use Rattle.frz_answer.specs.declared.status.Status.{Status}
use Rattle.frz_answer.specs.Statuses.{OneOf}
use Rattle.frz_answer.specs.Answers.{SomeAnswer, says}
use Rattle.frz_answer.specs.World.{World, world, Agrees, Fine, Quiet}
use Rattle.frz_answer.specs.Jobs.{Job, Never}
use Rattle.frz_answer.specs.Ends.{MayMeet, Ran, Said}
use Rattle.frz_answer.proofs.Lemmas.{said, stopped, fine_store, Found, SaysAll, Begun, behind_said}
use Rattle.frz_table.specs.declared.fault.TableFault.{TableFault}
use Rattle.frz_table.specs.declared.fault.TableFault.TheVariants as table
use Rattle.frz_answer.specs.declared.words.Refusal.{Refusal as WordsRefusal}
use Rattle.frz_answer.specs.declared.words.Refusal.TheVariants as words
use Rattle.frz_answer.specs.Words.{words_line}
use Rattle.frz_prelude.specs.TableCauses.{due_text, file_line, other_words}
use Rattle.frz_prelude.specs.Causes.{rules_line}
use Rattle.frz_prelude.specs.Refusals.{table_status, status_of, refusal_line}
use Rattle.frz_prelude.specs.Stops.{WantsMemoryAlone, HasItsCause, EndsBy}
use Rattle.frz_prelude.specs.declared.refused.Refused.{Refused as Refusal}
use Rattle.frz_prelude.specs.declared.refused.Refused.TheVariants as refusals
use Rattle.frz_prelude.specs.declared.stop.Stop.{Stop}
use Rattle.frz_prelude.specs.declared.stop.Stop.TheVariants.{Refused, Fault}
use Rattle.frz_table.specs.declared.other.OtherFile.{OtherFile}
use Rattle.frz_table.specs.declared.other.OtherFile.TheVariants as others
use Rattle.frz_prelude.proofs.OpenedTables.{by_table_status}

own_table : (fault : TableFault) → OneOf (table_status fault) (table_status fault ∷ [])
own_table fault = by_table_status (λ s. OneOf s (s ∷ [])) fault refl refl

-- the status of a refusal is its own
pub own_status : (why : Refusal) → OneOf (status_of why) (status_of why ∷ [])
own_status (refusals.Words why) = refl
own_status (refusals.Fen fault) = refl
own_status refusals.MissingRules = refl
own_status (refusals.Rules fault) = refl
own_status (refusals.Table fault) = own_table fault
own_status (refusals.Back fault) = own_table fault
own_status (refusals.BackWrong wrong) = refl
own_status refusals.Outside = refl

other_said : (other : OtherFile) → other_words other ≡ [] → ⊥
other_said others.Chained e = cc
other_said others.Former e = cc
other_said others.Older e = cc

-- each fault of a file is said, whatever word names the file
pub file_said : (word : List ℕ) (fault : TableFault) → file_line word fault ≡ [] → ⊥
file_said word table.Missing e = cc
file_said word table.Magic e = behind_said word _ (λ none. cc) e
file_said word (table.Other other) e = behind_said word _ (λ none. other_said other none) e
file_said word (table.Truncated length due) e = behind_said _ (due_text due) (λ none. cc) e
file_said word (table.Extra length due) e = behind_said _ (due_text due) (λ none. cc) e
file_said word (table.Rules fault) e = behind_said _ (rules_line fault) (λ none. cc) e
file_said word (table.Size kept due) e = behind_said _ (due_text due) (λ none. cc) e
file_said word table.Failed e = cc
file_said word table.NoMemory e = cc

words_said : (why : WordsRefusal) → words_line why ≡ [] → ⊥
words_said words.NoCommand e = cc
words_said words.Count e = cc
words_said words.SameName e = cc

-- each refusal is said in some text
pub refusal_said : (why : Refusal) → refusal_line why ≡ [] → ⊥
refusal_said (refusals.Words why) e = words_said why e
refusal_said (refusals.Fen fault) e = cc
refusal_said refusals.MissingRules e = cc
refusal_said (refusals.Rules fault) e = cc
refusal_said (refusals.Table fault) e = file_said (codes "table") fault e
refusal_said (refusals.Back fault) e = file_said (codes "back") fault e
refusal_said (refusals.BackWrong wrong) e = cc
refusal_said refusals.Outside e = cc

-- there is an answer that refuses so
pub some_refusal : (why : Refusal) (files : Files)
    → SomeAnswer (λ a. a ≡ says (status_of why) (refusal_line why) files)
some_refusal why files = record {
  a = says (status_of why) (refusal_line why) files;
  answer = refl;
  text = refusal_said why;
}

-- what was said with an equal status and an equal text
pub as_said : (s t : Status) (x y : List ℕ) (end : End) (old new : SinkTold) → s ≡ t → x ≡ y
    → Said s x end old new → Said t y end old new
as_said s t x y end old new e f h =
    subst (λ (status : Status). Said status y end old new) e
    (subst (λ (text : List ℕ). Said s text end old new) f h)

-- the files over which a job answers that reads them
abbrev pub found_where : (job : Job) (m files : Files) (input : List ℕ) (old : World)
    → (job.needs.reads ≡ Never → ⊥)
    → MayBeHeld old.store.files m → Agrees old files input → Found job files input old
found_where job m files input old reads there agrees = record {
  files = m;
  input = input;
  agrees = record { store = there; source = agrees.source };
  free = λ e. absurd (reads e);
  untaken = λ _. refl;
}

-- a job may be stopped so
abbrev pub MayStop : Job → Stop → World → World → Type 0
MayStop job (Refused why) old new = OneOf (status_of why) job.statuses × Fine old new
MayStop job (Fault fault) old new = MayMeet job fault old new

-- the refusal is an answer, or there is some answer, where a fault stopped the job
abbrev pub StopsWith : Job → Stop → Files → List ℕ → World → World → Type 0
StopsWith job (Refused why) files input old new =
    SaysAll job (status_of why) (refusal_line why) files input old new
StopsWith job (Fault fault) files input old new = Begun job files input old new

pub ended : (job : Job) (stop : Stop) (end : End) (old mid : World) (out : SinkTold) → Quiet old mid
    → MayStop job stop old mid → EndsBy stop end mid.out out
    → ((files : Files) (input : List ℕ) → Agrees old files input
    → StopsWith job stop files input old mid)
    → Ran job end old (record mid { out = out })
ended job (Refused why) end old mid out quiet may ends answers =
    said job (status_of why) (refusal_line why) end old mid out quiet may.1 may.0 ends answers
ended job (Fault fault) end old mid out quiet may ends answers =
    subst (λ (o : SinkTold). Ran job end old (record mid { out = o })) (sym ends.1)
    (subst (λ (e : End). Ran job e old mid) (sym ends.0)
    (stopped job fault old mid quiet may answers))

-- where only memory was wanted, and the store had not failed
pub own_cause : {A : Type 0} (result : Result A Stop) (old new : StoreTold)
    → WantsMemoryAlone result → StoreFine old new → HasItsCause result old new
own_cause {A} (Ok x) old new wants fine = fine
own_cause {A} (Err (Refused why)) old new wants fine = fine
own_cause {A} (Err (Fault fault)) old new wants fine =
    subst (λ (f : Faults). HasItsCause {A = A} (Err (Fault f)) old new) (sym wants) tt

-- a call of the store that was stopped may stop a job that uses the store and memory
pub may_stop : (A : Type 0) (job : Job) (stop : Stop) (old new : StoreTold) (input : SourceTold)
    (out : SinkTold) (before now : ℕ)
    → IsTrue job.needs.store → IsTrue job.needs.memory
    → ((why : Refusal) → stop ≡ Refused why → OneOf (status_of why) job.statuses)
    → HasItsCause {A = A} (Err stop) old new → MayStop job stop (world old input out before)
    (world new input out now)
may_stop A job (Refused why) old new input out before now asks wants own cause =
    (own why refl, fine_store old new input out before now cause)
may_stop A job (Fault faults.Store) old new input out before now asks wants own cause =
    (asks, cause)
may_stop A job (Fault faults.Input) old new input out before now asks wants own cause = absurd cause
may_stop A job (Fault faults.NoMemory) old new input out before now asks wants own cause = wants
