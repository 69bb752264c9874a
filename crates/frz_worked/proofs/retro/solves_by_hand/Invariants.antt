-- The brand stands for the blank ledger of the test.
use Rattle.frz_worked.proofs.retro.solves_by_hand.Given as goal

abbrev pub ghosts-solve_by_hand : goal.ghosts-solve_by_hand
ghosts-solve_by_hand g a = record { name = a.blank.name; parts = a.blank.parts }
