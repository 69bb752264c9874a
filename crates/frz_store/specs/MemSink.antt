-- A sink in memory, and what a write makes of it.
use Rattle.std.specs.Prelude.{ℕ, List, length, take, nat_lt, Bool, ◌||◌, is_some, if◌then◌else◌}
use Rattle.frz_store.specs.Outside.{counted}
use Rattle.frz_store.specs.Fails.{Plan, due_of, kept}
use Rattle.frz_store.specs.declared.fails.FailOn.TheVariants.{Call}
use Rattle.frz_store.specs.declared.mem_sink.MemSink.{MemSink}

-- the bytes taken so far
abbrev pub taken : MemSink → List ℕ
taken sink = sink.held.bytes.items

-- how many bytes the sink still has room for
abbrev pub room_left : MemSink → ℕ
room_left sink = sink.held.room

abbrev pub faults : MemSink → ℕ
faults sink = sink.faults

-- the writes that are to fail
abbrev pub plan : MemSink → Plan
plan sink = sink.plan

-- whether the next write fails: by its plan, or because its piece does not fit in the room
abbrev pub refuses : MemSink → List ℕ → Bool
refuses sink piece = is_some (due_of sink.plan Call) || nat_lt sink.held.room (length piece)

-- what the next write takes of its piece: what the plan lets it keep, as far as there is room
abbrev pub taken_of : MemSink → List ℕ → List ℕ
taken_of sink piece = take sink.held.room (kept (due_of sink.plan Call) piece)

-- the count of faults after this piece was written
abbrev pub faults_after : MemSink → List ℕ → ℕ
faults_after sink piece = if refuses sink piece then counted sink.faults else sink.faults
