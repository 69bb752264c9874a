-- What is due at a number, by its kept code and by the local code, which its moves give.
use Rattle.std.specs.Prelude.{◌==◌, ◌&&◌, ℕ, Bool, if◌then◌else◌}
use Rattle.frz_arena.specs.declared.node.Node.{Node}
use Rattle.frz_arena.specs.declared.node.Node.TheVariants as nodes
use Rattle.frz_arena.specs.Codes.{is_failure}
use Rattle.frz_ways.specs.declared.due.Due.{Due}
use Rattle.frz_ways.specs.declared.due.Due.TheVariants.{Wrong, NoBound, Mate, Stalemate, Cut, Ply}

-- what is due where the kept code is the local one. A way that is late is cut at a hold
abbrev pub due_on : (is_late : Bool) → (kept : ℕ) → Node → Due
due_on is_late kept nodes.Broken = Wrong 0
due_on is_late kept (nodes.Mate mover) = Mate mover
due_on is_late kept (nodes.Stalemate mover) = Stalemate mover
due_on is_late kept (nodes.Going mover) = if (kept == 1) && is_late then Cut else Ply mover

-- the kept code is first compared with the given one, which is the local code; then a start whose
-- code is a failure is refused
abbrev pub due_by : (is_start is_late : Bool) → (kept given : ℕ) → Node → Due
due_by is_start is_late kept given node =
    if kept == given
    then (if is_start && is_failure kept then NoBound else due_on is_late kept node)
    else Wrong given
