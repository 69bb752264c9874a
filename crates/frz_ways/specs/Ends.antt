-- What a line answers at its end.
use Rattle.std.specs.Prelude.{◌≡◌, ◌≢◌, ℕ, List, [], Result, Ok, Err, ⊤}
use Rattle.frz_board.specs.declared.man.Colour.{Colour}
use Rattle.frz_arena.specs.WayEnds.{Wrong, NoBound, Mated, Stalemated, Exit, Cut, Stopped}
use Rattle.frz_ways.specs.declared.end.LineEnd.{LineEnd}
use Rattle.frz_ways.specs.declared.end.LineEnd.TheVariants as ends
use Rattle.frz_ways.specs.declared.end.LineFault.{LineFault}
use Rattle.frz_ways.specs.declared.end.LineFault.TheVariants as faults
use Rattle.frz_ways.specs.Lines.{EndOfLine}

abbrev pub told : Colour → EndOfLine → Result LineEnd LineFault
told side (Wrong at kept given) =
    Err (faults.Wrong (record { side = side; number = at.1; kept = kept; given = given }))
told side NoBound = Err faults.NoBound
told side (Mated mover) = Ok ends.Mate
told side (Stalemated mover) = Ok ends.Stalemate
told side (Exit v) = Ok (ends.Exit v)
told side Cut = Ok ends.Cut
told side (Stopped reason) = elim reason [ ]

-- some text is still to be written, or the answer is a fault, whose line the caller writes
abbrev pub IsUnfinished : (answer : Result LineEnd LineFault) → (rest : List ℕ) → Type 0
IsUnfinished (Ok end) rest = rest ≢ []
IsUnfinished (Err fault) rest = ⊤

-- a line answers what its end calls for, with its whole text written. At a fault of the store it is
-- unfinished; at a fault of the sink nothing is said of how far it came
abbrev pub Finishes : (result answer : Result LineEnd LineFault) → (rest : List ℕ) → Type 0
Finishes (Err faults.Store) answer rest = IsUnfinished answer rest
Finishes (Err faults.NoMemory) answer rest = IsUnfinished answer rest
Finishes (Err faults.Output) answer rest = ⊤
Finishes result answer rest = (result ≡ answer) × (rest ≡ [])
