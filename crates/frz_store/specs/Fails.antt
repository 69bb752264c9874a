-- Which calls of an object in memory fail.
use Rattle.std.specs.Prelude.{ℕ, Bool, true, false, ◌&&◌, ◌==◌, List, Option, Some, None, find, take}
use Rattle.std.specs.Option.{option_map}
use Rattle.frz_store.specs.Outside.{counted}
use Rattle.frz_store.specs.declared.fails.FailOn.{FailOn}
use Rattle.frz_store.specs.declared.fails.FailOn.TheVariants.{Call, Size, Read, Create, Append}
use Rattle.frz_store.specs.declared.fails.Fail.{Fail}

-- the planned failures, and how many calls of each kind there were
pub record Plan : Type 0 where
  pub fails : List Fail
  pub calls : ℕ
  pub sizes : ℕ
  pub reads : ℕ
  pub creates : ℕ
  pub appends : ℕ

-- a plan before the first call
abbrev pub new_plan : List Fail → Plan
new_plan fails = record { fails = fails; calls = 0; sizes = 0; reads = 0; creates = 0; appends = 0 }

-- whether an entry on the first kind of call counts the calls of the second
abbrev pub counts : FailOn → FailOn → Bool
counts Call name = true
counts Size Size = true
counts Read Read = true
counts Create Create = true
counts Append Append = true
counts _ _ = false

-- the number, from 1, that the next call has among the calls that an entry on this kind counts
abbrev pub next_number : Plan → FailOn → ℕ
next_number plan Call = counted plan.calls
next_number plan Size = counted plan.sizes
next_number plan Read = counted plan.reads
next_number plan Create = counted plan.creates
next_number plan Append = counted plan.appends

-- whether the entry makes the next call of this kind fail
abbrev pub names : Plan → FailOn → Fail → Bool
names plan on fail = counts fail.on on && (fail.nth == next_number plan fail.on)

-- how many bytes of its piece the next call of this kind keeps, by the first entry that makes it
-- fail; none if it is not to fail
abbrev pub due_of : Plan → FailOn → Option ℕ
due_of plan on = option_map (λ fail. fail.keep) (find (names plan on) plan.fails)

-- the plan after a call of this kind was counted
abbrev pub after : Plan → FailOn → Plan
after plan Call = record plan { calls = counted plan.calls }
after plan Size = record plan { calls = counted plan.calls; sizes = counted plan.sizes }
after plan Read = record plan { calls = counted plan.calls; reads = counted plan.reads }
after plan Create = record plan { calls = counted plan.calls; creates = counted plan.creates }
after plan Append = record plan { calls = counted plan.calls; appends = counted plan.appends }

-- what is kept of a piece: all of it, or the first bytes where the call fails
abbrev pub kept : Option ℕ → List ℕ → List ℕ
kept None piece = piece
kept (Some most) piece = take most piece
