-- The brand stands for the blank ledger of the test.
use Rattle.frz_worked_files.proofs.atlas_lines.play.Given as goal

abbrev pub ghosts-played : goal.ghosts-played
ghosts-played a = record { name = a.blank.name; parts = a.blank.parts }
