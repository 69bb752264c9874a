-- The brand stands for the blank ledger of the test.
use Rattle.frz_worked.proofs.retro.agrees_on_pawns.Given as goal

abbrev pub ghosts-agree_on : goal.ghosts-agree_on
ghosts-agree_on g a = record { name = a.blank.name; parts = a.blank.parts }
