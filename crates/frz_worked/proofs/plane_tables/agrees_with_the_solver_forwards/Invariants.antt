-- The brand stands for the blank ledger of the test.
use Rattle.frz_worked.proofs.plane_tables.agrees_with_the_solver_forwards.Given as goal

abbrev pub ghosts-agree_on_texts : goal.ghosts-agree_on_texts
ghosts-agree_on_texts g a = record { name = a.blank.name; parts = a.blank.parts }
