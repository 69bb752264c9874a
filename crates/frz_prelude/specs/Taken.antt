-- The words after a command's name, where their number is right, and the position of a FEN.
use Rattle.std.specs.Prelude.{List, ℕ, Option, Some, None, Result, Ok, Err}
use Rattle.frz_answer.specs.declared.words.Refusal.TheVariants.{Count}
use Rattle.frz_board.specs.Boards.{Board}
use Rattle.frz_fen.specs.Reading.{fen_of}
use Rattle.frz_fen.specs.declared.fault.FenFault.{FenFault}
use Rattle.frz_prelude.specs.declared.refused.Refused.{Refused}
use Rattle.frz_prelude.specs.declared.refused.Refused.TheVariants.{Words, Fen}

-- the words, where there are as many as the command takes; else their number is refused
abbrev pub counted : {A : Type 0} → Option A → Result A Refused
counted (Some words) = Ok words
counted None = Err (Words Count)

-- the position that was read of a FEN, or the refusal with the FEN's fault
abbrev pub placed : Result Board FenFault → Result Board Refused
placed (Ok p) = Ok p
placed (Err fault) = Err (Fen fault)

abbrev pub position_of : List ℕ → Result Board Refused
position_of fen = placed (fen_of fen)
