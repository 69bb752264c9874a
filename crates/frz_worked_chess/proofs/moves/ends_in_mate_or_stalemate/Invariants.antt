-- The brand stands for the blank ledger of the test.
use Rattle.frz_worked_chess.proofs.moves.ends_in_mate_or_stalemate.Given as goal

abbrev pub ghosts-end_games : goal.ghosts-end_games
ghosts-end_games g a = record { name = a.blank.name; parts = a.blank.parts }
