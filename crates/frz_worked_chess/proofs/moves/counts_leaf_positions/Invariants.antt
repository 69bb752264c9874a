-- The brand stands for the blank ledger of the test.
use Rattle.frz_worked_chess.proofs.moves.counts_leaf_positions.Given as goal

abbrev pub ghosts-count_leaves : goal.ghosts-count_leaves
ghosts-count_leaves g a = record { name = a.blank.name; parts = a.blank.parts }
