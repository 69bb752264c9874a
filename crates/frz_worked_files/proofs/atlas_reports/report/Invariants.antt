-- The brand stands for the blank ledger of the test.
use Rattle.frz_worked_files.proofs.atlas_reports.report.Given as goal

abbrev pub ghosts-reported : goal.ghosts-reported
ghosts-reported a = record { name = a.blank.name; parts = a.blank.parts }
