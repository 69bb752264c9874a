-- The job of a command, all in one record: its answers and what they mean, the statuses and faults
-- that it may end with, what it writes, and what it costs.
use Rattle.std.specs.Prelude.{ℕ, ◌+◌, ◌≤◌, List, Bool, false, Option, Some, None, ⊤}
use Rattle.frz_store.specs.Files.{Files}
use Rattle.frz_answer.specs.declared.status.Status.{Status}
use Rattle.frz_answer.specs.World.{Spent}
use Rattle.frz_answer.specs.Answers.{Answer}

-- whether the answers of a job depend on the files. With `Never` an answer is one over whichever
-- files are chosen, as Answered says. `Once` is the other case, and binds nothing: no clause says
-- that a place is read once, and only the costs bound the calls of the store
pub data Reads : Type 0 where
  Never : Reads
  Once : Reads

-- what a job uses of the outside beside the sink
pub record Needs : Type 0 where
  -- it calls the store
  pub store : Bool
  pub reads : Reads
  pub input : Bool
  pub memory : Bool

abbrev pub nothing : Needs
nothing = record { store = false; reads = Never; input = false; memory = false }

-- bounds on the steps, on the calls of the store and on the bytes asked of it. None means that no
-- bound is stated
pub record Costs : Type 0 where
  pub steps : Option ℕ
  pub calls : Option ℕ
  pub asked : Option ℕ

-- at most so many steps, and no call of the store
abbrev pub steps_alone : Option ℕ → Costs
steps_alone steps = record { steps = steps; calls = Some 0; asked = Some 0 }

-- a count has risen by at most so much
abbrev pub Within : Option ℕ → ℕ → ℕ → Type 0
Within None before now = ⊤
Within (Some most) before now = now ≤ before + most

pub record WithinCosts (costs : Costs) (before now : Spent) : Type 0 where
  pub steps : Within costs.steps before.steps now.steps
  pub calls : Within costs.calls before.calls now.calls
  pub asked : Within costs.asked before.asked now.asked

pub record Job : Type 1 where
  -- whether this is an answer to these files and this input
  pub answers : Files → List ℕ → Answer → Type 0
  -- what such an answer means
  pub means : Files → List ℕ → Answer → Type 0
  -- the statuses of its own that it can end with
  pub statuses : List Status
  pub needs : Needs
  -- whether lines of its text may stand before the line of a fault. If not, its text is written
  -- whole or not at all
  pub speaks : Bool
  -- the name of the file that it writes, if any
  pub writes : Option (List ℕ)
  -- what it may have spent where this is its answer: the last two are the amounts before and after
  pub costs : Files → List ℕ → Answer → Spent → Spent → Type 0

-- a job that uses nothing of the outside but the sink, and makes no step
abbrev pub plain : List Status → (Files → List ℕ → Answer → Type 0) → Job
plain statuses answers = record {
  answers = answers;
  means = λ _ _ _. ⊤;
  statuses = statuses;
  needs = nothing;
  speaks = false;
  writes = None;
  costs = λ _ _ _. WithinCosts (steps_alone (Some 0));
}
