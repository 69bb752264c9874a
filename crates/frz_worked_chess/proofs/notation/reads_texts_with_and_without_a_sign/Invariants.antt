-- The brand stands for the blank ledger of the test.
use Rattle.frz_worked_chess.proofs.notation.reads_texts_with_and_without_a_sign.Given as goal

abbrev pub ghosts-read_moves : goal.ghosts-read_moves
ghosts-read_moves g a = record { name = a.blank.name; parts = a.blank.parts }
