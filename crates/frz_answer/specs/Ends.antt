-- How a command may end, and what it then has done of its job.
use Rattle.std.specs.Prelude.{◌≡◌, ◌≢◌, ◌⊎◌, ℕ, List, [], IsTrue, Bool, false, Option, Some, None, ⊤}
use Rattle.frz_store.specs.Files.{Files}
use Rattle.frz_store.specs.Outside.{Rose}
use Rattle.frz_store.specs.Told.{StoreTold, SinkTold, Unwritten}
use Rattle.frz_answer.specs.declared.status.Status.{Status}
use Rattle.frz_answer.specs.declared.status.Status.TheVariants.{Success}
use Rattle.frz_answer.specs.declared.fault.Fault.{Fault}
use Rattle.frz_answer.specs.declared.fault.Fault.TheVariants.{Store, Input, NoMemory}
use Rattle.frz_answer.specs.declared.end.End.{End}
use Rattle.frz_answer.specs.declared.end.End.TheVariants.{Done, SinkFault, Stopped}
use Rattle.frz_answer.specs.Statuses.{OneOf}
use Rattle.frz_answer.specs.Texts.{TookText, FailedWithin}
use Rattle.frz_answer.specs.World.{World, Agrees, Later, Fine, spent}
use Rattle.frz_answer.specs.Answers.{Answer, Gives, Begins, Cuts, TookLines, held}
use Rattle.frz_answer.specs.Jobs.{Job, Never}

-- the job is one that can meet this fault; at a fault of the store or the input, the count of such
-- faults has risen
abbrev pub MayMeet : Job → Fault → World → World → Type 0
MayMeet job Store old new = IsTrue job.needs.store × Rose old.store.faults new.store.faults
MayMeet job Input old new = IsTrue job.needs.input × Rose old.input.faults new.input.faults
MayMeet job NoMemory old new = IsTrue job.needs.memory

-- the job can end so. Where it ends with a status of its own, neither store, input nor sink failed
abbrev pub MayEnd : Job → End → World → World → Type 0
MayEnd job (Done status) old new = OneOf status job.statuses × Fine old new
MayEnd job SinkFault old new = Rose old.out.faults new.out.faults
MayEnd job (Stopped fault) old new = MayMeet job fault old new

-- the ends at which something may have been written to the store
abbrev pub MayHaveWritten : End → Type 0
MayHaveWritten (Done Success) = ⊤
MayHaveWritten (Done status) = ⊥
MayHaveWritten SinkFault = ⊤
MayHaveWritten (Stopped Store) = ⊤
MayHaveWritten (Stopped fault) = ⊥

-- where a fault stopped the command, it wrote whole lines or nothing, and nothing if its job does
-- not speak before its end
abbrev pub EndsInLines : Bool → End → SinkTold → SinkTold → Type 0
EndsInLines speaks (Stopped fault) old new =
    TookLines [] old new × (speaks ≡ false → new.taken ≡ old.taken)
EndsInLines speaks end old new = ⊤

-- nothing was written to the store but under this name
abbrev pub WritesOnly : Option (List ℕ) → StoreTold → StoreTold → Type 0
WritesOnly None old new = Unwritten old new
WritesOnly (Some name) old new = (q : List ℕ) → q ≢ name → held new.files q ≡ held old.files q

-- where the command ends with a status of its own and the store had no room to append before, it
-- has none afterwards
abbrev pub LeavesNoRoom : End → StoreTold → StoreTold → Type 0
LeavesNoRoom (Done status) old new = old.room ≡ 0 → new.room ≡ 0
LeavesNoRoom end old new = ⊤

-- how much of an answer was given where a command ends so
abbrev pub Leaves : End → Answer → World → World → Type 0
Leaves (Done status) a old new = (a.status ≡ status) × Gives a old new
Leaves SinkFault a old new = Cuts a old new
Leaves (Stopped fault) a old new = Begins a [] old new

-- the job has an answer over some files and some input that agree with what is known of them, and
-- the command gave as much of it as its end says, within its costs. Where the job looks at no files
-- or no input, these are free_files or free_input
pub record Answered
    (job : Job) (free_files : Files) (free_input : List ℕ) (end : End)
    (old new : World) : Type 0 where
  pub files : Files
  pub input : List ℕ
  pub agrees : Agrees old files input
  pub free : job.needs.reads ≡ Never → files ≡ free_files
  pub untaken : job.needs.input ≡ false → input ≡ free_input
  pub a : Answer
  pub answer : job.answers files input a
  pub leaves : Leaves end a old new
  pub costs : job.costs files input a (spent old) (spent new)

-- the command did its job as its contract says, and ends so
pub record Ran (job : Job) (end : End) (old new : World) : Type 0 where
  pub later : Later old new
  pub may : MayEnd job end old new
  pub lines : EndsInLines job.speaks end old.out new.out
  pub only : WritesOnly job.writes old.store new.store
  pub unwritten : (MayHaveWritten end → ⊥) → Unwritten old.store new.store
  pub room : LeavesNoRoom end old.store new.store
  pub answered : (files : Files) (input : List ℕ) →
      Agrees old files input → Answered job files input end old new

-- the text was written and the command ends with this status, or the sink failed within the text
pub record Said (status : Status) (text : List ℕ) (end : End) (old new : SinkTold) : Type 0 where
  pub says : ((end ≡ Done status) × TookText text old new)
      ⊎ ((end ≡ SinkFault) × FailedWithin text old new)
