-- How a table behind another is refused: the status, and the line, which names it by its place.
use Rattle.std.specs.Prelude.{ℕ, ◌+◌, List, ◌++◌, codes, decimal}
use Rattle.frz_answer.specs.declared.status.Status.{Status}
use Rattle.frz_answer.specs.declared.status.Status.TheVariants as statuses
use Rattle.frz_atlas.specs.declared.fault.BackFault.{BackFault}
use Rattle.frz_atlas.specs.declared.fault.BackFault.TheVariants.{Refused, Wrong}
use Rattle.frz_prelude.specs.Refusals.{table_status}
use Rattle.frz_prelude.specs.TableCauses.{file_line}
use Rattle.frz_prelude.specs.WrongLines.{wrong_line}

-- the word for a place; the text counts places from 1, and `place` from 0
abbrev pub back_word : ℕ → List ℕ
back_word place = codes "back " ++ decimal (place + 1)

abbrev pub back_status : BackFault → Status
back_status (Refused fault) = table_status fault
back_status (Wrong wrong) = statuses.Wrong

abbrev pub back_line : ℕ → BackFault → List ℕ
back_line place (Refused fault) = file_line (back_word place) fault
back_line place (Wrong wrong) = back_word place ++ codes ": " ++ wrong_line wrong
