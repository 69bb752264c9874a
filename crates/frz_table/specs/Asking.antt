-- Opening a table file and reading its codes as calculations that ask a store, by equations in the
-- order of the code.
use Rattle.std.specs.Prelude.{ℕ, ◌+◌, ◌-◌, ◌*◌, nat_lt, ◌==◌, min, List, [], ◌++◌, length, Option, None, Some, Result, Ok, Err, if◌then◌else◌}
use Rattle.std.specs.Int.{w32, from_le_bytes}
use Rattle.std.specs.Str.{bytes_eq}
use Rattle.frz_asks.specs.Loops.{repeated}
use Rattle.frz_asks.specs.Trees.{Asks, gives, ask_size, ask_bytes, with_memory, bind, bind_ok}
use Rattle.frz_board.specs.declared.man.Colour.{Colour}
use Rattle.frz_board.specs.declared.man.Colour.TheVariants.{White, Black}
use Rattle.frz_rules.specs.Text.{may_want_memory, rules_of}
use Rattle.frz_rules.specs.declared.fault.RulesCause.TheVariants.{TooLong}
use Rattle.frz_rules.specs.declared.fault.RulesFault.{RulesFault}
use Rattle.frz_sets.specs.Views.{RuleLines}
use Rattle.frz_table.specs.declared.fault.TableFault.{TableFault}
use Rattle.frz_table.specs.declared.fault.TableFault.TheVariants.{Missing, Truncated, Extra, Rules, Size}
use Rattle.frz_table.specs.declared.head.Head.{Head}
use Rattle.frz_table.specs.Faults.{magic_fault}
use Rattle.frz_table.specs.Layout.{Front, due_length, pieces_of, place_of}
use Rattle.frz_table.specs.Numbers.{numbers}
use Rattle.frz_table.specs.Opening.{Contents, Format, front_of}

-- a number of four bytes, the lowest first
abbrev pub number_of : List ℕ → ℕ → Asks ℕ
number_of name at = bind (ask_bytes name at 4) (λ l. gives (from_le_bytes w32 l))

-- by the length that is kept for the text, by the first eight bytes, and by the size of the file
abbrev pub by_length : ℕ → ℕ → Asks (Result Head TableFault)
by_length file text =
    if nat_lt 65536 text then gives (Err (Rules (record { line = 0; cause = TooLong }))) else
    (if nat_lt file (16 + text) then gives (Err (Truncated file (16 + text)))
    else gives (Ok (record { file = file; text = text })))

abbrev pub by_magic : List ℕ → Front → ℕ → List ℕ → Asks (Result Head TableFault)
by_magic name front file bytes =
    if bytes_eq bytes (front.magic bytes) then bind (number_of name 8) (by_length file)
    else gives (Err (magic_fault (front.other bytes)))

abbrev pub by_size : List ℕ → Front → Option ℕ → Asks (Result Head TableFault)
by_size name front None = gives (Err Missing)
by_size name front (Some file) =
    if nat_lt file 16 then gives (Err (Truncated file 16))
    else bind (ask_bytes name 0 8) (by_magic name front file)

-- the first five steps: the file is there, long enough, begins as is due, and has room for its text
unfoldable pub heading : List ℕ → Front → Asks (Result Head TableFault)
heading name front = bind (ask_size name) (by_size name front)

-- the length of a file, and the text in it with its rules
pub record Opened : Type 0 where
  pub file : ℕ
  pub text : List ℕ
  pub rules : RuleLines

-- a text that gives rules is kept
abbrev pub kept_as : ℕ → List ℕ → Result RuleLines RulesFault → Asks (Result Opened TableFault)
kept_as file text (Err fault) = gives (Err (Rules fault))
kept_as file text (Ok rules) =
    with_memory (gives (Ok (record { file = file; text = text; rules = rules })))

unfoldable pub reading : ℕ → List ℕ → Asks (Result Opened TableFault)
reading file text =
    if may_want_memory text then with_memory (kept_as file text (rules_of text))
    else kept_as file text (rules_of text)

abbrev pub by_head : List ℕ → Head → Asks (Result Opened TableFault)
by_head name head = bind (ask_bytes name 12 head.text) (reading head.file)

-- and then the text gives rules
unfoldable pub texting : List ℕ → Front → Asks (Result Opened TableFault)
texting name front = bind_ok (heading name front) (by_head name)

-- the kept size is that of the rules, and the length of the file is the one that is due by it
abbrev pub sized_as : Opened → ℕ → ℕ → Result (Unit {0}) TableFault
sized_as opened size kept =
    if kept == size then
    (if nat_lt opened.file (due_length opened.text size)
    then Err (Truncated opened.file (due_length opened.text size)) else
    (if nat_lt (due_length opened.text size) opened.file
    then Err (Extra opened.file (due_length opened.text size)) else Ok tt))
    else Err (Size kept size)

unfoldable pub sizing : List ℕ → Opened → ℕ → Asks (Result (Unit {0}) TableFault)
sizing name opened size =
    bind (number_of name (12 + length opened.text)) (λ kept. gives (sized_as opened size kept))

-- the format may refuse the rules
abbrev pub by_rules : Format → List ℕ → Opened → Result RuleLines RulesFault
    → Asks (Result Contents TableFault)
by_rules format name opened (Err fault) = gives (Err (Rules fault))
by_rules format name opened (Ok rules) =
    with_memory (bind_ok (sizing name opened (format.size rules))
    (λ t. with_memory (gives (Ok (record { text = opened.text; rules = rules })))))

abbrev pub by_text : Format → List ℕ → Opened → Asks (Result Contents TableFault)
by_text format name opened = by_rules format name opened (format.read opened.text)

-- all of it
unfoldable pub opening : Format → List ℕ → Asks (Result Contents TableFault)
opening format name = bind_ok (texting name (front_of format)) (by_text format name)

-- how many codes of a list come next, behind these
abbrev pub next_count : ℕ → List ℕ → ℕ
next_count count codes = min 16384 (count - length codes)

abbrev pub pushed : ℕ → List ℕ → List ℕ → Asks (List ℕ)
pushed count codes bytes = gives (codes ++ numbers (next_count count codes) bytes)

unfoldable pub next_piece : List ℕ → (at count : ℕ) → List ℕ → Asks (List ℕ)
next_piece name at count codes =
    bind (ask_bytes name (at + 4 * length codes) (4 * next_count count codes)) (pushed count codes)

-- so many codes from a place on, in pieces of 16,384 codes
unfoldable pub listing : List ℕ → (at count : ℕ) → Asks (List ℕ)
listing name at count = with_memory (repeated (pieces_of count) (next_piece name at count) [])

abbrev pub by_white : List ℕ → (at size : ℕ) → List ℕ
    → Asks (Result (List ℕ × List ℕ) TableFault)
by_white name at size white = bind (listing name at size) (λ black. gives (Ok (white, black)))

-- White's codes, and then Black's, of a file of this text and size
unfoldable pub loading : (name text : List ℕ) (size : ℕ) → Asks (Result (List ℕ × List ℕ) TableFault)
loading name text size =
    bind (listing name (place_of White text size) size) (by_white name (place_of Black text size) size)

-- one code
unfoldable pub coding : (name text : List ℕ) (size : ℕ) → Colour → ℕ → Asks ℕ
coding name text size side i = number_of name (place_of side text size + 4 * i)
