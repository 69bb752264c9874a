-- What a whole call of the program gives: the end of its command, and then a fault's line.
use Rattle.std.specs.Prelude.{◌≡◌, ◌≢◌, ◌⊎◌, ℕ, ◌≤◌, List, take, false, IsTrue}
use Rattle.std.specs.Io.KnownBytes.{append_known}
use Rattle.frz_store.specs.Files.{Files}
use Rattle.frz_store.specs.Outside.{Rose}
use Rattle.frz_store.specs.Told.{SinkTold, Unwritten}
use Rattle.frz_answer.specs.declared.status.Status.{Status}
use Rattle.frz_answer.specs.declared.status.Status.TheVariants.{Success}
use Rattle.frz_answer.specs.declared.fault.Fault.{Fault}
use Rattle.frz_answer.specs.declared.fault.Fault.TheVariants.{Store, NoMemory}
use Rattle.frz_answer.specs.declared.end.End.{End}
use Rattle.frz_answer.specs.declared.end.End.TheVariants.{Done, SinkFault, Stopped}
use Rattle.frz_answer.specs.Statuses.{code_of, fault_code, sink_code, fault_line, OneOf}
use Rattle.frz_answer.specs.Texts.{TookText, FailedWithin}
use Rattle.frz_answer.specs.World.{World, Agrees, Later, Fine, spent}
use Rattle.frz_answer.specs.Answers.{Answer, Gives, Begins, Cuts, TookLines}
use Rattle.frz_answer.specs.Jobs.{Job}
use Rattle.frz_answer.specs.Ends.{MayMeet, WritesOnly}

-- the line of a fault was written and the status is the fault's, or the sink failed within the line
abbrev pub NamesFault : Fault → ℕ → SinkTold → SinkTold → Type 0
NamesFault fault status old new =
    ((status ≡ fault_code fault) × TookText (fault_line fault) old new)
    ⊎ ((status ≡ sink_code) × FailedWithin (fault_line fault) old new)

-- the program's status where its command ends so, and what the sink takes after that end
abbrev pub Gave : End → ℕ → SinkTold → SinkTold → Type 0
Gave (Done s) status old new = (status ≡ code_of s) × (new ≡ old)
Gave SinkFault status old new = (status ≡ sink_code) × (new ≡ old)
Gave (Stopped fault) status old new = NamesFault fault status old new

pub record Finished (end : End) (status : ℕ) (old new : SinkTold) : Type 0 where
  pub later : old.faults ≤ new.faults
  pub gave : Gave end status old new

-- the status is one that the job can have: a status of its own, and then neither store, input nor
-- sink failed in this call, or that of a fault that came in this call
abbrev pub HasStatus : Job → ℕ → World → World → Type 0
HasStatus job status old new =
    ((s : Status) × OneOf s job.statuses × (status ≡ code_of s) × Fine old new)
    ⊎ ((fault : Fault) × MayMeet job fault old new × (status ≡ fault_code fault))
    ⊎ (Rose old.out.faults new.out.faults × (status ≡ sink_code))

-- the job has an answer over some files and some input that agree with what is known of them. The
-- answer means what the job says, and was found within its costs
pub record Answering (job : Job) (old new : World) : Type 0 where
  pub files : Files
  pub input : List ℕ
  pub agrees : Agrees old files input
  pub a : Answer
  pub answer : job.answers files input a
  pub meant : job.means files input a
  pub costs : job.costs files input a (spent old) (spent new)

-- a whole answer was given
pub record Whole (job : Job) (status : ℕ) (old new : World) : Type 0 where
  pub of : Answering job old new
  pub status_is : status ≡ code_of of.a.status
  pub gives : Gives of.a old new

-- whole lines of an answer were given, and then the line of this fault
pub record Halted (job : Job) (fault : Fault) (old new : World) : Type 0 where
  pub of : Answering job old new
  pub begins : Begins of.a (fault_line fault) old new

-- where the sink failed, it took a text that begins the answer's text, or whole lines that begin it
-- and then a part of the line of a fault that the job may meet
abbrev pub IsCutOff : Job → Answer → World → World → Type 0
IsCutOff job a old new =
    Cuts a old new
    ⊎ ((fault : Fault) × MayMeet job fault old new
    × ((k : ℕ) × Begins a (take k (fault_line fault)) old new))

pub record CutOff (job : Job) (old new : World) : Type 0 where
  pub of : Answering job old new
  pub cut : IsCutOff job of.a old new

-- where no count of faults rose, a whole answer was given, or a job that may want memory had none
abbrev pub IsComplete : Job → ℕ → World → World → Type 0
IsComplete job status old new =
    (Rose old.store.faults new.store.faults → ⊥)
    → (Rose old.input.faults new.input.faults → ⊥)
    → (Rose old.out.faults new.out.faults → ⊥)
    → Whole job status old new ⊎ (IsTrue job.needs.memory × (status ≡ fault_code NoMemory))

-- what the program gives for a job, whatever store, input and sink hold
pub record Outcome (job : Job) (status : ℕ) (old new : World) : Type 0 where
  -- no count has fallen, and the status is one that the job can have
  pub later : Later old new
  pub can : HasStatus job status old new
  -- no name is changed but the one that the job writes, and nothing is written to the store unless
  -- the status is success or that of a fault of the store or the sink
  pub only : WritesOnly job.writes old.store new.store
  pub unwritten : status ≢ code_of Success → status ≢ fault_code Store → status ≢ sink_code
      → Unwritten old.store new.store
  -- with a status of the job's own, a store that had no room to append before has none afterwards
  pub room : (s : Status) → status ≡ code_of s → old.store.room ≡ 0 → new.store.room ≡ 0
  -- with the status of a fault, the sink took whole lines or nothing, and then the fault's line. It
  -- took that line alone if the job does not speak before its end
  pub names : (fault : Fault) → status ≡ fault_code fault →
      TookLines (fault_line fault) old.out new.out
  pub alone : (fault : Fault) → status ≡ fault_code fault → job.speaks ≡ false
      → new.out.taken ≡ append_known old.out.taken (fault_line fault)
  -- with a status of the job's own, a whole answer was given, and it means what the job says
  pub honest : (s : Status) → status ≡ code_of s → Whole job status old new
  -- with the status of a fault, whole lines that begin an answer were written, and then the fault's
  -- line; where the sink failed, an answer is cut off
  pub halted : (fault : Fault) → status ≡ fault_code fault → Halted job fault old new
  pub cut : status ≡ sink_code → CutOff job old new
  pub complete : IsComplete job status old new
