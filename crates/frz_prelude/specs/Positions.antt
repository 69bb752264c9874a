-- What a command does with the word FEN, and the number of a position in a set.
use Rattle.std.specs.Prelude.{◌≡◌, ℕ, List, Result, Ok, Err}
use Rattle.frz_board.specs.Boards.{Board}
use Rattle.frz_fen.specs.declared.fault.FenFault.{FenFault}
use Rattle.frz_sets.specs.Views.{GroupLine}
use Rattle.frz_index.specs.Members.{Member, Num}
use Rattle.frz_answer.specs.Jobs.{Job}
use Rattle.frz_prelude.specs.Refusals.{refusing_named}
use Rattle.frz_prelude.specs.declared.refused.Refused.{Refused}
use Rattle.frz_prelude.specs.declared.refused.Refused.TheVariants.{Fen, Outside}

-- the job at the position of the FEN, or to refuse the FEN for its first fault
abbrev pub on_position : (Board → Job) → Result Board FenFault → Job
on_position job (Ok p) = job p
on_position job (Err fault) = refusing_named (Fen fault)

-- the result is the number of the position in the set, or the position is outside and refused
abbrev pub IsPlaced : List GroupLine → Board → Result ℕ Refused → Type 0
IsPlaced groups p (Ok i) = Member groups p × (i ≡ Num groups p)
IsPlaced groups p (Err why) = (Member groups p → ⊥) × (why ≡ Outside)
