use Rattle.frz_prelude.proofs.table_causes.write_file_fault.Goals as goal

pub returns-in-Truncated : goal.returns-in-Truncated
returns-in-Truncated g c = rw c.in-Truncated.is c.write_numbers.ensures

pub returns-in-Extra : goal.returns-in-Extra
returns-in-Extra g c = rw c.in-Extra.is c.write_numbers-in-Extra.ensures

pub returns-in-Other : goal.returns-in-Other
returns-in-Other g c = rw c.in-Other.is (rw c.words_of.ensures at c.write_words-in-Other.ensures)
