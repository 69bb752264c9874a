-- From an open table to the file under its name.
use Rattle.std.proofs.Common.{◌≡◌, refl, sym, ap, subst, ℕ, ◌+◌, ◌*◌, ◌≤◌, List, drop, length, Option, Some, Result, Ok, Err, IfOk, IfErr, IfSome, arith}
use Rattle.std.specs.Prelude.{slice_index}
use Rattle.frz_board.specs.Boards.{Board}
use Rattle.frz_board.specs.declared.man.Colour.{Colour}
use Rattle.frz_board.specs.declared.man.Colour.TheVariants.{White, Black}
use Rattle.frz_sets.specs.declared.exit.Value.{Value}
use Rattle.frz_sets.specs.Sets.{size_of}
use Rattle.frz_sets.specs.Views.{RuleLines}
use Rattle.frz_game.specs.Books.{value_by}
use Rattle.frz_game.specs.EntryCodes.{of_side}
use Rattle.frz_rules.specs.Text.{rules_of}
use Rattle.frz_store.specs.Bytes.{HoldsBytes}
use Rattle.frz_store.specs.Files.{Files}
use Rattle.frz_store.specs.Told.{StoreTold}
use Rattle.frz_table.specs.declared.fault.TableFault.{TableFault}
use Rattle.frz_table.specs.declared.kind.FileKind.{FileKind}
use Rattle.frz_table.specs.declared.kind.FileKind.TheVariants.{Plain}
use Rattle.frz_table.specs.Faults.{IsOutside}
use Rattle.frz_table.specs.Layout.{magic_of, pieces_of}
use Rattle.frz_table.specs.Opening.{Contents, contents_of, kept_text, opened, opening_calls, table_format}
use Rattle.frz_table.specs.Possible.{MayHold, MayKeep, MayOpen}
use Rattle.frz_table.specs.Tables.{IsTableFile, Table, table_size}
use Rattle.frz_table.proofs.Lemmas.{belongs, held_bytes, length-numbers, loading_calls, opened_calls, opens_by, outside_refuses, read_short, text_kept}
use Rattle.frz_game.specs.Bounds.{IsTableOf}
use Rattle.frz_check.specs.declared.verdict.Verdict.{Verdict}
use Rattle.frz_check.specs.Kept.{ChecksFile, ChecksTable, IsVerdictOn, RefusesFile, WithinFile, kept_codes, opened_size}
use Rattle.frz_check.specs.Verdicts.{IsVerdict}
use Rattle.frz_check.proofs.OneFile.{verdict_on}
use Rattle.frz_check.proofs.OneVerdict.{TablesExact}

-- there are as many codes of a side as the set has positions
pub many_codes : (contents : Contents) (bytes : List ℕ) (side : Colour)
    → length (kept_codes contents bytes side) ≡ size_of contents.rules.groups
many_codes contents bytes White =
    length-numbers (size_of contents.rules.groups) (drop (16 + length contents.text) bytes)
many_codes contents bytes Black =
    length-numbers (size_of contents.rules.groups)
    (drop (16 + length contents.text + 4 * size_of contents.rules.groups) bytes)

-- a verdict on codes is one on the same codes
pub same_verdict : (rules : RuleLines) (value : Board → Value) (codes others : Colour → List ℕ)
    (v : Verdict) →
    ((side : Colour) → codes side ≡ others side) → IsVerdict rules value codes v
    → IsVerdict rules value others v
same_verdict rules value codes others v same h =
    let e : codes ≡ others = λ i side. same side i in
    subst (λ (c : Colour → List ℕ). IsVerdict rules value c v) e h

-- the file of a table that was opened, under its name: the name may hold it, and it opens so
pub file_opens : (kind : FileKind) (table : Table) (name bytes : List ℕ) (old now : Option Files) →
    now ≡ old → table.kind ≡ kind → table.name ≡ name → rules_of table.text ≡ Ok table.rules →
    MayHold now table.name (Some bytes) →
    IsTableFile (magic_of table.kind) table.text (table_size table) bytes →
    MayHold old name (Some bytes)
    × (opened (table_format kind) (Some bytes) ≡ Ok (contents_of table))
file_opens kind table name bytes old now same is_kind named read may file = (
  subst (λ (o : Option Files). MayHold o name (Some bytes)) same
      (subst (λ (n : List ℕ). MayHold now n (Some bytes)) named may),
  subst (λ (k : FileKind). opened (table_format k) (Some bytes) ≡ Ok (contents_of table)) is_kind
      (opens_by (table_format table.kind) bytes (contents_of table)
      (record { file = file; short = read_short table.text table.rules read; read = read })),
)

-- a verdict by equal rules, on equal lists
pub moved_verdict : (rules same : RuleLines) (value : Board → Value)
    (white black white_slice black_slice : List ℕ) (v : Verdict) → rules ≡ same →
    white_slice ≡ white → black_slice ≡ black →
    IsVerdict rules value (λ side. of_side side white_slice black_slice) v
    → IsVerdict same value (λ side. of_side side white black) v
moved_verdict rules same value white black white_slice black_slice v is white_is black_is h =
    subst (λ (r : RuleLines). IsVerdict r value (λ side. of_side side white black) v) is
    (subst (λ (l : List ℕ). IsVerdict rules value (λ side. of_side side white l) v) black_is
    (subst (λ (l : List ℕ). IsVerdict rules value (λ side. of_side side l black_slice) v) white_is
    h))

-- the lists that were loaded are those in a file that the name may hold
pub table_checked : (files : Option Files) (table : Table) (value : Board → Value)
    (white black : List ℕ) (v : Verdict) →
    IfSome files HoldsBytes → TablesExact table.rules value →
    ((side : Colour) (codes : List ℕ) → IsTableOf table.rules value side codes → (i : ℕ) →
    slice_index codes i ≤ 3 + 2 * (size_of table.rules.groups + 1000)) →
    rules_of table.text ≡ Ok table.rules → MayKeep files table white black →
    IsVerdict table.rules value (λ side. of_side side white black) v
    → ChecksTable files table value v
table_checked files table value white black v are exact plies read kept h =
    let opens = (file_opens table.kind table table.name kept.bytes files files refl refl refl read
    kept.may kept.file).1 in
    record {
      bytes = kept.bytes;
      may = kept.may;
      file = kept.file;
      told =
          verdict_on table.kind value (contents_of table) kept.bytes v
          (held_bytes files table.name (Some kept.bytes) are kept.may) exact plies read opens
          (same_verdict table.rules value (λ side. of_side side white black)
          (kept_codes (contents_of table) kept.bytes) v kept_side h);
    }
  where
    kept_side : (side : Colour) → of_side side white black
        ≡ kept_codes (contents_of table) kept.bytes side
    kept_side White = sym kept.white_is
    kept_side Black = sym kept.black_is

-- what opening and loading ask for is within what the file asks for
pub within_file : (bytes : List ℕ) (contents : Contents) (old mid new : StoreTold)
    (steps_before steps_now : ℕ) →
    opened (table_format Plain) (Some bytes) ≡ Ok contents →
    mid.asked ≤ old.asked + (16 + length contents.text) → mid.calls ≤ old.calls + 5 →
    new.asked ≤ mid.asked + 8 * size_of contents.rules.groups →
    new.calls ≤ mid.calls + 2 * pieces_of (size_of contents.rules.groups) →
    steps_now ≤ steps_before + size_of contents.rules.groups →
    WithinFile (Some bytes) old new steps_before steps_now
within_file bytes contents old mid new steps_before steps_now opens asked calls more_asked
    more_calls steps =
    let size : ℕ = size_of contents.rules.groups in
    let is : opened_size (opened (table_format Plain) (Some bytes)) ≡ size = ap opened_size opens in
    let file = belongs (table_format Plain) bytes contents opens in
    let text : length (kept_text bytes) ≡ length contents.text = ap (length {A = ℕ})
    (text_kept _ contents.text size bytes file.file) in
    let pieces : pieces_of (opened_size (opened (table_format Plain) (Some bytes)))
    ≡ pieces_of size = ap pieces_of is in
    let first = opened_calls (table_format Plain) bytes contents opens in
    record {
      steps = omega (arith, is, steps);
      asked = omega (arith, is, text, asked, more_asked);
      calls = loading_calls old.calls mid.calls new.calls
          (pieces_of (opened_size (opened (table_format Plain) (Some bytes))))
          (pieces_of size) (opening_calls (table_format Plain) (Some bytes)) pieces first calls
          more_calls;
    }

-- the table that was opened is the one in the file
pub file_checked : (files : Option Files) (table : Table) (rules : RuleLines) (name : List ℕ)
    (old mid new : StoreTold) (steps_before steps_now : ℕ) (v : Verdict) →
    files ≡ old.files → table.kind ≡ Plain → table.name ≡ name → rules ≡ table.rules →
    rules_of table.text ≡ Ok table.rules →
    mid.asked ≤ old.asked + (16 + length table.text) → mid.calls ≤ old.calls + 5 →
    new.asked ≤ mid.asked + 8 * table_size table →
    new.calls ≤ mid.calls + 2 * pieces_of (table_size table) →
    steps_now ≤ steps_before + table_size table →
    ChecksTable files table (λ q. value_by rules q) v
    → ChecksFile name old new steps_before steps_now v
file_checked files table rules name old mid new steps_before steps_now v same kind named same_rules
    read asked calls more_asked more_calls steps h =
    let contents : Contents = contents_of table in
    let there = file_opens Plain table name h.bytes old.files files same kind named read h.may
    h.file in
    record {
      bytes = h.bytes;
      may = there.0;
      contents = contents;
      opens = there.1;
      told =
          subst (λ (k : FileKind). IsVerdictOn k (value_by table.rules) contents h.bytes v) kind
          (subst (λ (r : RuleLines). IsVerdictOn table.kind (value_by r) contents h.bytes v)
          same_rules h.told);
      within = within_file h.bytes contents old mid new steps_before steps_now there.1 asked calls
          more_asked more_calls steps;
    }

-- the table was opened and not loaded
pub file_not_loaded : (table : Table) (name : List ℕ) (old mid new : StoreTold)
    (steps_before steps_now : ℕ) (fault : TableFault) →
    MayOpen (table_format Plain) old.files name (contents_of table) →
    mid.asked ≤ old.asked + (16 + length table.text) → mid.calls ≤ old.calls + 5 →
    new.asked ≤ mid.asked + 8 * table_size table →
    new.calls ≤ mid.calls + 2 * pieces_of (table_size table) →
    steps_now ≤ steps_before + table_size table →
    IsOutside fault → RefusesFile name old new steps_before steps_now fault
file_not_loaded table name old mid new steps_before steps_now fault opens asked calls more_asked
    more_calls steps outside = record {
      held = Some opens.bytes;
      may = opens.may;
      refuses = outside_refuses (opened (table_format Plain) (Some opens.bytes)) fault outside;
      within = within_file opens.bytes (contents_of table) old mid new steps_before steps_now
          opens.opens asked calls more_asked more_calls steps;
    }

-- what a refusal says of its fault
pub if_refused : {T E : Type 0} (P Q : E → Type 0) (r : Result T E) → ((e : E) → P e → Q e)
    → IfErr r P → IfErr r Q
if_refused P Q (Ok v) f h = tt
if_refused P Q (Err e) f h = f e h

pub if_given : {T E : Type 0} (P Q : T → Type 0) (r : Result T E) → ((v : T) → P v → Q v) → IfOk r P
    → IfOk r Q
if_given P Q (Ok v) f h = f v h
if_given P Q (Err e) f h = tt
