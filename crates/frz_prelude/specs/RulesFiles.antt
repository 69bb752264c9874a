-- What a store has under the name of a rules file, how many bytes are
-- asked of the store in how many calls, and the rules that the file gives.
use Rattle.std.specs.Prelude.{◌≡◌, ℕ, ◌<◌, ◌≤◌, ◌+◌, List, length, Option, Some, None, IsSomeAnd, Result, Ok, Err, nat_lt, ⊤, if◌then◌else◌}
use Rattle.frz_rules.specs.declared.fault.TheConstants.{LONGEST_TEXT}
use Rattle.frz_rules.specs.declared.fault.RulesFault.{RulesFault}
use Rattle.frz_rules.specs.Text.{rules_of}
use Rattle.frz_sets.specs.Sets.{size_of}
use Rattle.frz_sets.specs.Views.{RuleLines}
use Rattle.frz_store.specs.Bytes.{AreBytes, MayBeHeld}
use Rattle.frz_store.specs.Files.{Files}
use Rattle.frz_store.specs.Told.{StoreTold}
use Rattle.frz_prelude.specs.Stops.{Answers}
use Rattle.frz_prelude.specs.declared.refused.Refused.{Refused as Refusal}
use Rattle.frz_prelude.specs.declared.refused.Refused.TheVariants.{MissingRules, Rules}
use Rattle.frz_prelude.specs.declared.stop.Stop.{Stop}
use Rattle.frz_prelude.specs.declared.stop.Stop.TheVariants.{Refused, Fault}
use Rattle.frz_prelude.specs.declared.rules_at.RulesText.{RulesText}
use Rattle.frz_prelude.specs.declared.rules_file.RulesFile.{RulesFile}
use Rattle.frz_prelude.specs.declared.rules_file.RulesFile.TheVariants.{Missing, TooLong, Text}

abbrev pub IsHeld : Option (List ℕ) → RulesFile → Type 0
IsHeld held Missing = held ≡ None
IsHeld held TooLong = IsSomeAnd held (λ bytes. LONGEST_TEXT < length bytes)
IsHeld held (Text text) = held ≡ Some text.items

-- what was read of a file is a list of bytes
abbrev pub AreBytesOf : RulesFile → Type 0
AreBytesOf (Text text) = AreBytes text.items
AreBytesOf file = ⊤

-- how many bytes of a file are asked for: all of them, but none where it is missing or too long
abbrev pub asked_of : Option (List ℕ) → ℕ
asked_of None = 0
asked_of (Some bytes) = if nat_lt LONGEST_TEXT (length bytes) then 0 else length bytes

-- how many bytes were asked for, by what was read
abbrev pub asked_by : RulesFile → ℕ
asked_by (Text text) = length text.items
asked_by file = 0

-- how often a file is read: once, but never where it is missing or too long
abbrev pub reads_of : Option (List ℕ) → ℕ
reads_of None = 0
reads_of (Some bytes) = if nat_lt LONGEST_TEXT (length bytes) then 0 else 1

-- how often the file was read, by what was read
abbrev pub reads_by : RulesFile → ℕ
reads_by (Text text) = 1
reads_by file = 0

-- the rules that were read, or their fault
abbrev pub or_fault : Result RuleLines RulesFault → Result RuleLines Refusal
or_fault (Ok r) = Ok r
or_fault (Err fault) = Err (Rules fault)

-- the rules in what a name holds, or why it holds none
abbrev pub rules_held : Option (List ℕ) → Result RuleLines Refusal
rules_held None = Err MissingRules
rules_held (Some text) = or_fault (rules_of text)

-- `count` where the rules are accepted, and else 0
abbrev pub if_rules : Result RuleLines Refusal → ℕ → ℕ
if_rules (Ok lines) count = count
if_rules (Err why) count = 0

-- how many numbers the set of the rules has, and 0 where they are not accepted
abbrev pub size_by : Result RuleLines Refusal → ℕ
size_by (Ok lines) = size_of lines.groups
size_by (Err why) = 0

-- the text is what the name holds, with the rules of the text; or the name holds no rules, for this
-- reason. Nothing is said where a fault stopped the call
abbrev pub GivesText : Option (List ℕ) → Result RulesText Stop → Type 0
GivesText held (Ok read) =
    (held ≡ Some read.text.items) × (rules_of read.text.items ≡ Ok read.rules)
GivesText held (Err (Refused why)) = rules_held held ≡ Err why
GivesText held (Err (Fault fault)) = ⊤

-- the text and the rules are those under the name in some files of bytes. Where the store's
-- contract says which files it holds, they are these. No more was asked of the store than the
-- reading needs
pub record IsTextRead (name : List ℕ) (result : Result RulesText Stop)
    (old new : StoreTold) : Type 0 where
  pub files : Files
  pub agrees : MayBeHeld old.files files
  pub due : GivesText (files name) result
  pub asked : new.asked ≤ old.asked + asked_of (files name)
  pub calls : new.calls ≤ old.calls + (1 + reads_of (files name))

-- the rules are those under the name in some files of bytes. Where the store's contract says which
-- files it holds, they are these. No more was asked of the store than the reading needs
pub record IsRead (name : List ℕ) (result : Result RuleLines Stop)
    (old new : StoreTold) : Type 0 where
  pub files : Files
  pub agrees : MayBeHeld old.files files
  pub due : Answers result (rules_held (files name))
  pub asked : new.asked ≤ old.asked + asked_of (files name)
  pub calls : new.calls ≤ old.calls + (1 + reads_of (files name))
