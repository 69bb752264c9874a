-- The brand stands for the blank ledger of the test.
use Rattle.frz_worked.proofs.retro.solves_ten_numbers.Given as goal

abbrev pub ghosts-solve_ten : goal.ghosts-solve_ten
ghosts-solve_ten g a = record { name = a.blank.name; parts = a.blank.parts }
