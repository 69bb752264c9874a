-- The brand stands for the blank ledger of the test.
use Rattle.frz_worked_chess.proofs.moves.lists_moves_in_order.Given as goal

abbrev pub ghosts-list_moves : goal.ghosts-list_moves
ghosts-list_moves g a = record { name = a.blank.name; parts = a.blank.parts }
