-- The brand stands for the blank ledger of the test.
use Rattle.frz_worked_chess.proofs.notation.writes_moves_and_reads_them_back.Given as goal

abbrev pub ghosts-write_moves : goal.ghosts-write_moves
ghosts-write_moves g a = record { name = a.blank.name; parts = a.blank.parts }
