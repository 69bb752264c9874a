-- A source in memory, and what a read makes of it.
use Rattle.std.specs.Prelude.{ℕ, List, Bool, is_some, drop, if◌then◌else◌}
use Rattle.frz_store.specs.Outside.{counted}
use Rattle.frz_store.specs.Fails.{Plan, due_of, after}
use Rattle.frz_store.specs.declared.fails.FailOn.TheVariants.{Call}
use Rattle.frz_store.specs.declared.mem_source.MemSource.{MemSource}

-- the bytes that no read has taken
abbrev pub left : MemSource → List ℕ
left source = source.remaining

abbrev pub faults : MemSource → ℕ
faults source = source.faults

-- the reads that are to fail
abbrev pub plan : MemSource → Plan
plan source = source.plan

-- whether the next read is to fail
abbrev pub fails_next : MemSource → Bool
fails_next source = is_some (due_of source.plan Call)

-- the source after a read was counted, and counted as a fault too if it is to fail
abbrev pub called : MemSource → MemSource
called source = record source {
  plan = after source.plan Call;
  faults = if fails_next source then counted source.faults else source.faults;
}

-- the source after `count` bytes were taken
abbrev pub without_front : MemSource → ℕ → MemSource
without_front source count = record source { remaining = drop count source.remaining }
