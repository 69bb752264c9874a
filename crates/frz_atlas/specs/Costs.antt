-- What it costs to open and to check files of tables that stand behind others.
use Rattle.std.specs.Prelude.{ℕ, ◌+◌, ◌*◌, ◌≤◌, List, length, sum_by, Option}
use Rattle.frz_store.specs.Told.{StoreTold}
use Rattle.frz_table.specs.Layout.{pieces_of}
use Rattle.frz_table.specs.Opening.{opened, own_format}
use Rattle.frz_table.specs.Possible.{held_text}
use Rattle.frz_check.specs.Kept.{opened_size}

-- how many numbers the table has, and 0 where the file is refused
abbrev pub size_held : Option (List ℕ) → ℕ
size_held held = opened_size (opened own_format held)

-- the costs of one file. Steps: one for each number. Bytes: the text, two codes a number, and at
-- most 24 more. Calls: those that load the codes, and at most seven that look at how the file
-- begins and open it
abbrev pub steps_of : Option (List ℕ) → ℕ
steps_of held = size_held held

abbrev pub bytes_of : Option (List ℕ) → ℕ
bytes_of held = 24 + length (held_text held) + 8 * size_held held

abbrev pub calls_of : Option (List ℕ) → ℕ
calls_of held = 7 + 2 * pieces_of (size_held held)

-- no more is spent than opening and checking one file costs
pub record WithinOne (held : Option (List ℕ)) (old new : StoreTold)
    (steps_before steps_now : ℕ) : Type 0 where
  pub steps : steps_now ≤ steps_before + steps_of held
  pub asked : new.asked ≤ old.asked + bytes_of held
  pub calls : new.calls ≤ old.calls + calls_of held

-- no more is spent than opening and checking all of the files costs
pub record WithinAll (helds : List (Option (List ℕ))) (old new : StoreTold)
    (steps_before steps_now : ℕ) : Type 0 where
  pub steps : steps_now ≤ steps_before + sum_by steps_of helds
  pub asked : new.asked ≤ old.asked + sum_by bytes_of helds
  pub calls : new.calls ≤ old.calls + sum_by calls_of helds
