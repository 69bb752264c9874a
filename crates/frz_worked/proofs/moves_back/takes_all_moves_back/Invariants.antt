-- The brand stands for the blank ledger of the test.
use Rattle.frz_worked.proofs.moves_back.takes_all_moves_back.Given as goal

abbrev pub ghosts-find_converse : goal.ghosts-find_converse
ghosts-find_converse g a = record { name = a.blank.name; parts = a.blank.parts }
