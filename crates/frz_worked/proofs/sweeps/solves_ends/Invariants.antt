-- The brand stands for the blank ledger of the test.
use Rattle.frz_worked.proofs.sweeps.solves_ends.Given as goal

abbrev pub ghosts-check_rows : goal.ghosts-check_rows
ghosts-check_rows g a = record { name = a.blank.name; parts = a.blank.parts }
