-- The brand stands for the blank ledger of the test.
use Rattle.frz_worked_files.proofs.journeys.journeys_over_tables_made_by_hand.Given as goal

abbrev pub ghosts-play_rows : goal.ghosts-play_rows
ghosts-play_rows g a = record { name = a.blank.name; parts = a.blank.parts }
