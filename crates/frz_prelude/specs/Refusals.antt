-- How a command refuses its words, or what they name: the status and the line of each refusal.
use Rattle.std.specs.Prelude.{◌≡◌, ℕ, List, [], ◌∷◌, codes}
use Rattle.frz_answer.specs.declared.status.Status.{Status}
use Rattle.frz_answer.specs.declared.status.Status.TheVariants as statuses
use Rattle.frz_answer.specs.Answers.{says}
use Rattle.frz_answer.specs.Jobs.{Job, plain}
use Rattle.frz_answer.specs.Words.{words_line}
use Rattle.frz_table.specs.declared.fault.TableFault.{TableFault}
use Rattle.frz_table.specs.declared.fault.TableFault.TheVariants as table
use Rattle.frz_prelude.specs.Causes.{fen_line, rules_line}
use Rattle.frz_prelude.specs.TableCauses.{back_line, table_line}
use Rattle.frz_prelude.specs.WrongLines.{back_wrong_line}
use Rattle.frz_prelude.specs.declared.refused.Refused.{Refused}
use Rattle.frz_prelude.specs.declared.refused.Refused.TheVariants.{Words, Fen, MissingRules, Rules, Table, Back, BackWrong, Outside}

-- the status where a table file is missing, or its bytes are refused
abbrev pub table_status : TableFault → Status
table_status table.Missing = statuses.Missing
table_status fault = statuses.Table

abbrev pub status_of : Refused → Status
status_of (Words why) = statuses.Words
status_of (Fen fault) = statuses.Fen
status_of MissingRules = statuses.Missing
status_of (Rules fault) = statuses.Rules
status_of (Table fault) = table_status fault
status_of (Back fault) = table_status fault
status_of (BackWrong wrong) = statuses.Wrong
status_of Outside = statuses.Outside

abbrev pub refusal_line : Refused → List ℕ
refusal_line (Words why) = words_line why
refusal_line (Fen fault) = fen_line fault
refusal_line MissingRules = codes "missing rules\n"
refusal_line (Rules fault) = rules_line fault
refusal_line (Table fault) = table_line fault
refusal_line (Back fault) = back_line fault
refusal_line (BackWrong wrong) = back_wrong_line wrong
refusal_line Outside = codes "outside\n"

-- the job of refusing what the words name
abbrev pub refusing_named : Refused → Job
refusing_named why =
    plain (status_of why ∷ []) (λ files input a. a ≡ says (status_of why) (refusal_line why) files)
