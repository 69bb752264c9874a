-- The lines that refuse a table file.
use Rattle.std.specs.Prelude.{ℕ, List, ◌++◌, codes, decimal}
use Rattle.frz_table.specs.declared.other.OtherFile.{OtherFile}
use Rattle.frz_table.specs.declared.other.OtherFile.TheVariants.{Chained, Former, Older}
use Rattle.frz_table.specs.declared.fault.TableFault.{TableFault}
use Rattle.frz_table.specs.declared.fault.TableFault.TheVariants.{Missing, Magic, Other, Truncated, Extra, Rules, Size, Failed, NoMemory}
use Rattle.frz_answer.specs.declared.fault.Fault.TheVariants as faults
use Rattle.frz_answer.specs.Statuses.{fault_line}
use Rattle.frz_prelude.specs.Causes.{rules_line}

-- the number that is due, written behind the one that is there
abbrev pub due_text : ℕ → List ℕ
due_text due = codes " due " ++ decimal due ++ codes "\n"

-- what a file is that another program or another time made, and who reads it
abbrev pub other_words : OtherFile → List ℕ
other_words Chained = codes ": chained, ask freezer chainquery\n"
other_words Former = codes ": former, ask freezer migrate\n"
other_words Older = codes ": older, build it again\n"

-- the line that refuses a table file. The word stands for the file: `table`, or `back` for a back
-- table. A fault of the store and want of memory refuse no file and have lines of their own
abbrev pub file_line : List ℕ → TableFault → List ℕ
file_line word Missing = codes "missing " ++ word ++ codes "\n"
file_line word Magic = word ++ codes ": magic\n"
file_line word (Other other) = word ++ other_words other
file_line word (Truncated length due) =
    word ++ (codes ": truncated " ++ decimal length) ++ due_text due
file_line word (Extra length due) = word ++ (codes ": extra " ++ decimal length) ++ due_text due
file_line word (Rules fault) = word ++ codes ": " ++ rules_line fault
file_line word (Size kept due) = word ++ (codes ": size " ++ decimal kept) ++ due_text due
file_line word Failed = fault_line faults.Store
file_line word NoMemory = fault_line faults.NoMemory

abbrev pub table_line : TableFault → List ℕ
table_line fault = file_line (codes "table") fault

abbrev pub back_line : TableFault → List ℕ
back_line fault = file_line (codes "back") fault
