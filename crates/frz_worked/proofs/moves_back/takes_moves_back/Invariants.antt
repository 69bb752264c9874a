-- The brand stands for the blank ledger of the test.
use Rattle.frz_worked.proofs.moves_back.takes_moves_back.Given as goal

abbrev pub ghosts-find_rows : goal.ghosts-find_rows
ghosts-find_rows g a = record { name = a.blank.name; parts = a.blank.parts }
