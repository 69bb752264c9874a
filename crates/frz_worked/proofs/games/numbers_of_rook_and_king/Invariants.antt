-- The brand stands for the blank ledger of the test.
use Rattle.frz_worked.proofs.games.numbers_of_rook_and_king.Given as goal

abbrev pub ghosts-look_at_numbers : goal.ghosts-look_at_numbers
ghosts-look_at_numbers g a = record { name = a.blank.name; parts = a.blank.parts }
