-- The codes of the statuses, and the lines of the faults.
use Rattle.std.specs.Prelude.{◌≡◌, ℕ, Bool, true, false, ◌&&◌, ◌||◌, ◌==◌, List, [], ◌∷◌}
use lib.Chars.{codes}
use Rattle.frz_store.specs.declared.outside.StoreFault.{StoreFault}
use Rattle.frz_store.specs.declared.outside.StoreFault.TheVariants as refusal
use Rattle.frz_answer.specs.declared.status.Status.{Status}
use Rattle.frz_answer.specs.declared.status.Status.TheVariants.{Success, Words, Rules, Fen, Table, Wrong, Outside, Missing, Limit, NoMove}
use Rattle.frz_answer.specs.declared.fault.Fault.{Fault}
use Rattle.frz_answer.specs.declared.fault.Fault.TheVariants.{Store, Input, NoMemory}
use Rattle.frz_answer.specs.declared.end.End.{End}
use Rattle.frz_answer.specs.declared.end.End.TheVariants.{Stopped}

abbrev pub code_of : Status → ℕ
code_of Success = 0
code_of Words = 2
code_of Rules = 3
code_of Fen = 4
code_of Table = 5
code_of Wrong = 6
code_of Outside = 7
code_of Missing = 12
code_of Limit = 13
code_of NoMove = 15

abbrev pub fault_code : Fault → ℕ
fault_code Store = 8
fault_code Input = 10
fault_code NoMemory = 11

-- the status where the sink failed
abbrev pub sink_code : ℕ
sink_code = 9

abbrev pub fault_line : Fault → List ℕ
fault_line Store = codes "store fault\n"
fault_line Input = codes "input fault\n"
fault_line NoMemory = codes "no memory\n"

-- how a command ends at a fault of the store
abbrev pub end_of_fault : StoreFault → End
end_of_fault refusal.Failed = Stopped Store
end_of_fault refusal.NoMemory = Stopped NoMemory

-- whether the number is the code of one of these statuses
abbrev pub has_code : List Status → ℕ → Bool
has_code [] n = false
has_code (s ∷ ss) n = (n == code_of s) || has_code ss n

-- the status is one of these
abbrev pub OneOf : Status → List Status → Type 0
OneOf s ss = has_code ss (code_of s) ≡ true

-- whether each status of the first list is in the second
abbrev pub subset : List Status → List Status → Bool
subset [] ts = true
subset (s ∷ ss) ts = has_code ts (code_of s) && subset ss ts
