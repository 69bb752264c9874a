-- What it is to open a file: eight steps in order, of which the first that refuses counts.
use Rattle.std.specs.Prelude.{ℕ, ◌+◌, ◌≡◌, ◌≤◌, nat_lt, ◌==◌, List, length, take, drop, Option, Some, None, Result, Ok, Err, if◌then◌else◌, ⊤}
use Rattle.std.specs.Option.{option_map, unwrap_or}
use Rattle.std.specs.Str.{bytes_eq}
use Rattle.frz_sets.specs.Views.{RuleLines}
use Rattle.frz_store.specs.Files.{Files}
use Rattle.frz_sets.specs.Sets.{size_of}
use Rattle.frz_rules.specs.Text.{rules_of}
use Rattle.frz_rules.specs.declared.fault.RulesCause.TheVariants.{TooLong}
use Rattle.frz_rules.specs.declared.fault.RulesFault.{RulesFault}
use Rattle.frz_table.specs.declared.fault.TableFault.{TableFault}
use Rattle.frz_table.specs.declared.fault.TableFault.TheVariants.{Missing, Truncated, Extra, Rules, Size, Failed, NoMemory}
use Rattle.frz_table.specs.declared.kind.FileKind.{FileKind}
use Rattle.frz_table.specs.declared.other.OtherFile.{OtherFile}
use Rattle.frz_table.specs.Faults.{magic_fault}
use Rattle.frz_table.specs.Numbers.{number_at}
use Rattle.frz_table.specs.Layout.{Front, magic_of, due_length, due_magic, kind_begun, other_file}
use Rattle.frz_table.specs.Tables.{Begins, Table, IsTableFile}

-- what distinguishes one format of table files from another: the magic that is due where a file
-- begins with eight bytes, what else the file is where these are not due, how it reads a text, and
-- the size that rules have
pub record Format : Type 0 where
  pub magic : List ℕ → List ℕ
  pub other : List ℕ → Option OtherFile
  pub read : List ℕ → Result RuleLines RulesFault
  pub size : RuleLines → ℕ

-- the format of files of this kind, or with None of files of the kind as which they begin
abbrev pub format_for : Option FileKind → Format
format_for kind = record {
  magic = due_magic (option_map magic_of kind);
  other = other_file (option_map magic_of kind);
  read = rules_of;
  size = λ rules. size_of rules.groups;
}

abbrev pub front_of : Format → Front
front_of format = record { magic = format.magic; other = format.other }

abbrev pub table_format : FileKind → Format
table_format kind = format_for (Some kind)

abbrev pub own_format : Format
own_format = format_for None

-- the kind as which a file was opened: the one that was asked for, or that of its first bytes
pub record IsOfKind (files : Option Files) (name : List ℕ) (asked : Option FileKind)
    (kind : FileKind) : Type 0 where
  pub front : List ℕ
  pub begins : Begins files name front
  pub is : kind ≡ unwrap_or asked (kind_begun front)

-- what opening a file gives
pub record Contents : Type 0 where
  pub text : List ℕ
  pub rules : RuleLines

-- the length of the text, the text and the size, as these bytes keep them
abbrev pub kept_length : List ℕ → ℕ
kept_length bytes = number_at 8 bytes

abbrev pub kept_text : List ℕ → List ℕ
kept_text bytes = take (kept_length bytes) (drop 12 bytes)

abbrev pub kept_size : List ℕ → ℕ
kept_size bytes = number_at (12 + kept_length bytes) bytes

-- the last step: a file that is shorter or longer than is due is refused
abbrev pub of_length : List ℕ → Contents → ℕ → Result Contents TableFault
of_length bytes contents due =
    if nat_lt (length bytes) due then Err (Truncated (length bytes) due) else
    (if nat_lt due (length bytes) then Err (Extra (length bytes) due) else Ok contents)

abbrev pub of_size : List ℕ → Contents → ℕ → Result Contents TableFault
of_size bytes contents size =
    if kept_size bytes == size then of_length bytes contents (due_length contents.text size)
    else Err (Size (kept_size bytes) size)

abbrev pub with_rules : Format → List ℕ → Result RuleLines RulesFault → Result Contents TableFault
with_rules format bytes (Err fault) = Err (Rules fault)
with_rules format bytes (Ok rules) =
    of_size bytes (record { text = kept_text bytes; rules = rules }) (format.size rules)

abbrev pub with_text : Format → List ℕ → Result Contents TableFault
with_text format bytes =
    if nat_lt (length bytes) (16 + kept_length bytes)
    then Err (Truncated (length bytes) (16 + kept_length bytes))
    else with_rules format bytes (format.read (kept_text bytes))

abbrev pub with_length : Format → List ℕ → Result Contents TableFault
with_length format bytes =
    if nat_lt 65536 (kept_length bytes) then Err (Rules (record { line = 0; cause = TooLong }))
    else with_text format bytes

abbrev pub with_magic : Format → List ℕ → Result Contents TableFault
with_magic format bytes =
    if bytes_eq (take 8 bytes) (format.magic (take 8 bytes)) then with_length format bytes
    else Err (magic_fault (format.other (take 8 bytes)))

-- what opening a name gives: the name holds these bytes, or is not there
unfoldable pub opened : Format → Option (List ℕ) → Result Contents TableFault
opened format None = Err Missing
opened format (Some bytes) =
    if nat_lt (length bytes) 16 then Err (Truncated (length bytes) 16) else with_magic format bytes

-- how many calls of the store open what a name holds: one asks for its length, and one each reads
-- the magic, the length of the text, the text and the size, until a step refuses
abbrev pub calls_by_rules : Result RuleLines RulesFault → ℕ
calls_by_rules (Err fault) = 4
calls_by_rules (Ok rules) = 5

abbrev pub calls_by_text : Format → List ℕ → ℕ
calls_by_text format bytes =
    if nat_lt (length bytes) (16 + kept_length bytes) then 3 else calls_by_rules
    (format.read (kept_text bytes))

abbrev pub calls_by_length : Format → List ℕ → ℕ
calls_by_length format bytes =
    if nat_lt 65536 (kept_length bytes) then 3 else calls_by_text format bytes

abbrev pub calls_by_magic : Format → List ℕ → ℕ
calls_by_magic format bytes =
    if bytes_eq (take 8 bytes) (format.magic (take 8 bytes)) then calls_by_length format bytes else 2

unfoldable pub opening_calls : Format → Option (List ℕ) → ℕ
opening_calls format None = 1
opening_calls format (Some bytes) =
    if nat_lt (length bytes) 16 then 1 else calls_by_magic format bytes

abbrev pub contents_of : Table → Contents
contents_of table = record { text = table.text; rules = table.rules }

-- opening gives this fault, unless it is a fault of the store or of memory
abbrev pub Refuses : Result Contents TableFault → TableFault → Type 0
Refuses given Failed = ⊤
Refuses given NoMemory = ⊤
Refuses given fault = given ≡ Err fault

-- the bytes are a file of this format with this text and the size of these rules, and the text
-- gives these rules
pub record IsOpened (format : Format) (bytes : List ℕ) (contents : Contents) : Type 0 where
  pub file : IsTableFile (format.magic (take 8 bytes)) contents.text (format.size contents.rules) bytes
  pub short : length contents.text ≤ 65536
  pub read : format.read contents.text ≡ Ok contents.rules

-- the length that is due for a file of this text and size of which only `left` bytes are left, as
-- far as these bytes tell it
abbrev pub due_by : List ℕ → ℕ → ℕ → ℕ
due_by text size left =
    if nat_lt left 16 then 16 else
    (if nat_lt left (16 + length text) then 16 + length text else due_length text size)
