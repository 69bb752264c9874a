-- The verdict on a table that a name may hold, with its size.
use Rattle.std.specs.Prelude.{◌≡◌, ℕ, List}
use Rattle.frz_sets.specs.Sets.{size_of}
use Rattle.frz_store.specs.Told.{StoreTold}
use Rattle.frz_check.specs.Kept.{ChecksFile}
use Rattle.frz_commands_table.specs.declared.judging.Judged.{Judged}

pub record JudgesFile (name : List ℕ) (old new : StoreTold) (steps_before steps_now : ℕ)
    (judged : Judged) : Type 0 where
  pub file : ChecksFile name old new steps_before steps_now judged.verdict
  pub size : judged.size ≡ size_of file.contents.rules.groups
