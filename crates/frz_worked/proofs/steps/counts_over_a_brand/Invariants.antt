-- The brand stands for the blank ledger of the test.
use Rattle.frz_worked.proofs.steps.counts_over_a_brand.Given as goal

abbrev pub ghosts-take_two_steps : goal.ghosts-take_two_steps
ghosts-take_two_steps a = record { name = a.blank.name; parts = a.blank.parts }
