-- An open table, and which stores carry it.
use Rattle.std.specs.Prelude.{ℕ, ◌+◌, ◌≡◌, List, length, take, drop, Option, IfSome, IsSomeAnd, Ok}
use Rattle.frz_sets.specs.Views.{RuleLines}
use Rattle.frz_sets.specs.Sets.{size_of}
use Rattle.frz_sets.specs.Sound.{IsSound}
use Rattle.frz_rules.specs.Text.{rules_of}
use Rattle.frz_store.specs.Files.{Files, bytes_at}
use Rattle.frz_table.specs.declared.kind.FileKind.{FileKind}
use Rattle.frz_table.specs.Numbers.{AreBytes, number_at}
use Rattle.frz_table.specs.Layout.{magic_of, due_length}

-- what contracts see of an open table; its set is the one that the groups of its rules describe
pub record Table : Type 0 where
  pub name : List ℕ
  pub kind : FileKind
  pub text : List ℕ
  pub rules : RuleLines

abbrev pub table_size : Table → ℕ
table_size table = size_of table.rules.groups

-- the text is a list of bytes that gives these rules, and the rules are sound
pub record IsRead (text : List ℕ) (rules : RuleLines) : Type 0 where
  pub read : rules_of text ≡ Ok rules
  pub sound : IsSound rules
  pub bytes : AreBytes text

-- the bytes have this magic, the text's length, the text and
-- this size in their places, and the length due
pub record IsTableFile (magic text : List ℕ) (size : ℕ) (bytes : List ℕ) : Type 0 where
  pub begins : take 8 bytes ≡ magic
  pub counted : number_at 8 bytes ≡ length text
  pub has_text : take (length text) (drop 12 bytes) ≡ text
  pub sized : number_at (12 + length text) bytes ≡ size
  pub due : length bytes ≡ due_length text size

abbrev pub IsFileOf : Table → List ℕ → Type 0
IsFileOf table bytes = IsTableFile (magic_of table.kind) table.text (table_size table) bytes

-- if the store tells, the file is there and its bytes have the property P
abbrev pub Holds : Option Files → List ℕ → (List ℕ → Type 0) → Type 0
Holds files name P = IfSome files (λ m. IsSomeAnd (m name) P)

-- if the store tells, the bytes of the name begin so
abbrev pub Begins : Option Files → List ℕ → List ℕ → Type 0
Begins files name front = IfSome files (λ m. take 8 (bytes_at m name) ≡ front)

-- if the store tells, the table's name holds a file of the table
abbrev pub Carries : Option Files → Table → Type 0
Carries files table = Holds files table.name (IsFileOf table)
