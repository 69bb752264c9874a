-- Table files of the former format: opened as others are, with another magic and a limited size.
use Rattle.std.specs.Prelude.{ℕ, ◌≤◌, nat_lt, List, Option, None, Result, Ok, Err, if◌then◌else◌}
use Rattle.frz_combinations.specs.Binomials.{capped}
use Rattle.frz_sets.specs.Views.{RuleLines}
use Rattle.frz_index.specs.OldNumbers.{old_size_of}
use Rattle.frz_index.specs.declared.old.TheConstants.{MOST_OLD_NUMBERS}
use Rattle.frz_rules.specs.Text.{rules_of}
use Rattle.frz_rules.specs.declared.fault.RulesCause.TheVariants.{SetTooBig}
use Rattle.frz_rules.specs.declared.fault.RulesFault.{RulesFault}
use Rattle.frz_store.specs.Files.{Files}
use Rattle.frz_table.specs.Layout.{former_magic}
use Rattle.frz_table.specs.Opening.{Contents, Format}
use Rattle.frz_table.specs.Possible.{MayKeepCodes}
use Rattle.frz_table.specs.Tables.{Holds, IsRead, IsTableFile}

-- the first eight bytes
abbrev pub old_magic : List ℕ
old_magic = former_magic

-- rules whose set has too many numbers in the former format are refused
abbrev pub limited : RuleLines → Result RuleLines RulesFault
limited rules =
    if nat_lt MOST_OLD_NUMBERS (old_size_of rules.groups)
    then Err (record { line = 0; cause = SetTooBig (capped (old_size_of rules.groups)) })
    else Ok rules

abbrev pub limited_read : Result RuleLines RulesFault → Result RuleLines RulesFault
limited_read (Err fault) = Err fault
limited_read (Ok rules) = limited rules

-- a text is read as every rules text, and then limited
abbrev pub old_rules_of : List ℕ → Result RuleLines RulesFault
old_rules_of text = limited_read (rules_of text)

-- the former format of table files
abbrev pub old_format : Format
old_format =
    record {
      magic = λ front. old_magic;
      other = λ front. None;
      read = old_rules_of;
      size = λ rules. old_size_of rules.groups;
    }

-- what contracts see of an open file of the former format
pub record OldTable : Type 0 where
  pub name : List ℕ
  pub text : List ℕ
  pub rules : RuleLines

abbrev pub old_table_size : OldTable → ℕ
old_table_size table = old_size_of table.rules.groups

abbrev pub old_contents_of : OldTable → Contents
old_contents_of table = record { text = table.text; rules = table.rules }

-- the rules are those of the text, and their set has at most MOST_OLD_NUMBERS numbers in the former
-- format
pub record IsOldRead (text : List ℕ) (rules : RuleLines) : Type 0 where
  pub is_read : IsRead text rules
  pub few : old_size_of rules.groups ≤ MOST_OLD_NUMBERS

abbrev pub IsOldFileOf : OldTable → List ℕ → Type 0
IsOldFileOf table bytes = IsTableFile old_magic table.text (old_table_size table) bytes

-- if the store tells, the file's name holds a file of its text in the former format
abbrev pub CarriesOld : Option Files → OldTable → Type 0
CarriesOld files table = Holds files table.name (IsOldFileOf table)

-- the file's name may hold a file of its text in the former format with these codes
abbrev pub MayKeepOld : Option Files → OldTable → List ℕ → List ℕ → Type 0
MayKeepOld files table white black =
    MayKeepCodes files table.name old_magic table.text (old_table_size table) white black
