-- A store in memory, and what a call makes of it.
use Rattle.std.specs.Prelude.{◌≡◌, ℕ, ◌+◌, ◌-◌, ◌^◌, min, Bool, List, Option, is_some, if◌then◌else◌}
use Rattle.frz_store.specs.Outside.{counted}
use Rattle.frz_store.specs.Fails.{Plan, due_of, after}
use Rattle.frz_store.specs.Files.{Files}
use Rattle.frz_store.specs.Shelf.{files_of, last_of, room_of}
use Rattle.frz_store.specs.declared.fails.FailOn.{FailOn}
use Rattle.frz_store.specs.declared.mem_store.MemStore.{MemStore}

-- what each name holds
abbrev pub files : MemStore → Files
files store = files_of store.shelf

-- the name that was created last
abbrev pub last : MemStore → Option (List ℕ)
last store = last_of store.shelf

-- how many bytes may still be appended
abbrev pub room : MemStore → ℕ
room store = room_of store.shelf

-- how many bytes all reads together asked for
abbrev pub asked : MemStore → ℕ
asked store = store.asked

-- how often the store was called
abbrev pub calls : MemStore → ℕ
calls store = store.plan.calls

abbrev pub faults : MemStore → ℕ
faults store = store.faults

-- the calls that are to fail
abbrev pub plan : MemStore → Plan
plan store = store.plan

-- how many bytes the next call of this kind keeps, if it is to fail
abbrev pub due : MemStore → FailOn → Option ℕ
due store on = due_of store.plan on

-- whether the next call of this kind is to fail
abbrev pub fails_next : MemStore → FailOn → Bool
fails_next store on = is_some (due store on)

-- the store after a call of this kind was counted, and counted as a fault too if it is to fail
abbrev pub called : MemStore → FailOn → MemStore
called store on = record store {
  plan = after store.plan on;
  faults = if fails_next store on then counted store.faults else store.faults;
}

-- the store after the bytes that a read asks for were counted
abbrev pub asked_for : MemStore → ℕ → MemStore
asked_for store count = record store { asked = min (store.asked + count) (2 ^ 64 - 1) }

-- a call of this kind was counted, and besides that only the files are new
abbrev pub IsCalled : MemStore → FailOn → MemStore → Type 0
IsCalled store on new = new ≡ record (called store on) { shelf = new.shelf }
