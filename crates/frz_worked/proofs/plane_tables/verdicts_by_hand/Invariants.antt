-- The brand stands for the blank ledger of the test.
use Rattle.frz_worked.proofs.plane_tables.verdicts_by_hand.Given as goal

abbrev pub ghosts-judge_by_hand : goal.ghosts-judge_by_hand
ghosts-judge_by_hand g a = record { name = a.blank.name; parts = a.blank.parts }
