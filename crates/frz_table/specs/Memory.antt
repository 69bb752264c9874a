-- When opening what a name holds may need memory.
use Rattle.std.specs.Prelude.{◌≡◌, ◌⊎◌, ℕ, true, List, length, Option, Ok}
use Rattle.frz_sets.specs.Views.{RuleLines}
use Rattle.frz_rules.specs.Text.{may_want_memory, rules_of}
use Rattle.frz_store.specs.Files.{Files}
use Rattle.frz_store.specs.Outside.{Rose}
use Rattle.frz_table.specs.Opening.{kept_length, kept_text}
use Rattle.frz_table.specs.Steps.{HasHead}
use Rattle.frz_table.specs.Tables.{Holds}

-- reading this text may need memory, or the text gives rules, which are kept in memory
abbrev pub TakesMemory : List ℕ → Type 0
TakesMemory text = (may_want_memory text ≡ true)
    ⊎ ((rules : RuleLines) × (rules_of text ≡ Ok rules))

-- the head of these bytes is right, and their text may need memory
pub record WantsMemory (magic bytes : List ℕ) : Type 0 where
  pub head : HasHead magic (length bytes) (kept_length bytes) bytes
  pub text : TakesMemory (kept_text bytes)

-- the store itself had no memory, or opening the file may need memory, as far as the store tells
abbrev pub MemoryWanted : List ℕ → Option Files → List ℕ → (wants_before wants_now : ℕ) → Type 0
MemoryWanted magic files name wants_before wants_now =
    Rose wants_before wants_now ⊎ Holds files name (WantsMemory magic)
