-- The brand stands for the blank ledger of the test.
use Rattle.frz_worked_freezer.proofs.tests.steps.expect_few_steps.Given as goal

abbrev pub ghosts-build_and_check : goal.ghosts-build_and_check
ghosts-build_and_check a = record { name = a.blank.name; parts = a.blank.parts }
