-- One table that was opened as its own kind and loaded, and one that was not.
use Rattle.std.proofs.Common.{◌≡◌, ap, sym, ◌∙◌, ℕ, ◌+◌, ◌*◌, ◌≤◌, List, length, Bool, Some, Ok, IfSome, arith}
use Rattle.frz_board.specs.declared.man.Colour.TheVariants.{White, Black}
use Rattle.frz_rules.specs.Text.{rules_of}
use Rattle.frz_sets.specs.Sets.{size_of}
use Rattle.frz_store.specs.Bytes.{HoldsBytes}
use Rattle.frz_store.specs.Told.{StoreTold}
use Rattle.frz_table.specs.declared.fault.TableFault.{TableFault}
use Rattle.frz_table.specs.Faults.{IsOutside}
use Rattle.frz_table.specs.Layout.{kind_by, pieces_of}
use Rattle.frz_table.specs.Opening.{Contents, contents_of, kept_text, own_format, table_format}
use Rattle.frz_table.specs.Possible.{MayKeep}
use Rattle.frz_table.specs.Tables.{Table, table_size}
use Rattle.frz_table.proofs.Lemmas.{belongs, held_bytes, outside_refuses, text_kept}
use Rattle.frz_check.specs.Kept.{kept_codes, opened_size}
use Rattle.frz_check.proofs.Lemmas.{file_opens}
use Rattle.frz_backs.specs.FileOn.{back_of}
use Rattle.frz_backs.specs.BackTable.{BackTable}
use Rattle.frz_backs.specs.Links.{Link}
use Rattle.frz_backs.specs.Loaded.{leans_as}
use Rattle.frz_atlas.specs.Behind.{leans, link_of}
use Rattle.frz_atlas.specs.Costs.{size_held}
use Rattle.frz_atlas.specs.Loading.{LoadsOne, RefusesOne, WithinLoadingOne, opened_own}
use Rattle.frz_atlas.specs.Opening.{IsOwnKind, MayOpenOwn, MayRefuseOwn, link_with}
use Rattle.frz_atlas.proofs.OwnKinds.{leans_by, opens_own}

pub not_opened : (name : List ℕ) (old new : StoreTold) (fault : TableFault)
    → new.calls ≤ old.calls + 7 → MayRefuseOwn name old new fault → RefusesOne name old new fault
not_opened name old new fault calls h = record {
  held = h.held;
  may = h.may;
  refuses = h.refuses;
  within = record { asked = omega (arith, h.asked); calls = omega (arith, calls) };
}

-- what opening and loading ask for is within what the file asks for
within_loading : (bytes : List ℕ) (contents : Contents) (old mid new : StoreTold)
    → opened_own (Some bytes) ≡ Ok contents
    → mid.asked ≤ old.asked + (24 + length contents.text) → mid.calls ≤ old.calls + 7
    → new.asked ≤ mid.asked + 8 * size_of contents.rules.groups
    → new.calls ≤ mid.calls + 2 * pieces_of (size_of contents.rules.groups)
    → WithinLoadingOne (Some bytes) old new
within_loading bytes contents old mid new opens asked calls more_asked more_calls =
    let size : ℕ = size_of contents.rules.groups in
    let is : size_held (Some bytes) ≡ size = ap opened_size opens in
    let file = belongs own_format bytes contents opens in
    let text : length (kept_text bytes) ≡ length contents.text = ap (length {A = ℕ})
    (text_kept _ contents.text size bytes file.file) in
    let pieces : pieces_of (size_held (Some bytes)) ≡ pieces_of size = ap pieces_of is in
    record {
      asked = omega (arith, is, text, asked, more_asked);
      calls = omega (arith, pieces, calls, more_calls);
    }

-- the table in a file that keeps these codes is the one with them
abbrev leaning_in : Contents → List ℕ → Bool → Link
leaning_in contents bytes b =
    record { rules = contents.rules; leans = b; back = back_of contents bytes }

pub link_kept : (table : Table) (white black bytes : List ℕ) → leans bytes ≡ leans_as table.kind
    → white ≡ kept_codes (contents_of table) bytes White
    → black ≡ kept_codes (contents_of table) bytes Black
    → link_with table white black ≡ link_of (record { bytes = bytes; contents = contents_of table })
link_kept table white black bytes leaning white_is black_is =
    ap (λ (l : List ℕ). link_with table l black) white_is
    ∙ ap (λ (l : List ℕ). link_with table (kept_codes (contents_of table) bytes White) l) black_is
    ∙ ap (leaning_in (contents_of table) bytes) (sym leaning)

-- it was opened, and the lists of its codes were not loaded
pub not_loaded : (table : Table) (name : List ℕ) (old mid new : StoreTold) (fault : TableFault)
    → MayOpenOwn old.files name (contents_of table)
    → mid.asked ≤ old.asked + (24 + length table.text) → mid.calls ≤ old.calls + 7
    → new.asked ≤ mid.asked + 8 * table_size table
    → new.calls ≤ mid.calls + 2 * pieces_of (table_size table) → IsOutside fault
    → RefusesOne name old new fault
not_loaded table name old mid new fault opens asked calls more_asked more_calls outside = record {
  held = Some opens.bytes;
  may = opens.may;
  refuses = outside_refuses (opened_own (Some opens.bytes)) fault outside;
  within = within_loading opens.bytes (contents_of table) old mid new opens.opens asked calls
      more_asked more_calls;
}

-- the file whose codes were loaded is one of the table
pub loaded_one : (given : BackTable) (name : List ℕ) (old mid new : StoreTold)
    → IfSome mid.files HoldsBytes
    → MayKeep mid.files given.table given.white.items given.black.items → mid.files ≡ old.files
    → IsOwnKind given.table.kind → given.table.name ≡ name
    → MayOpenOwn old.files name (contents_of given.table)
    → mid.asked ≤ old.asked + (24 + length given.table.text) → mid.calls ≤ old.calls + 7
    → new.asked ≤ mid.asked + 8 * table_size given.table
    → new.calls ≤ mid.calls + 2 * pieces_of (table_size given.table)
    → LoadsOne name old new given
loaded_one given name old mid new are kept same kind named may asked calls more_asked more_calls =
    let table : Table = given.table in
    let b : Bool = leans_as table.kind in
    let contents : Contents = contents_of table in
    let read : rules_of table.text ≡ Ok table.rules =
    (belongs own_format may.bytes contents may.opens).read in
    let there = file_opens (kind_by b) table name kept.bytes old.files mid.files same kind named
    read kept.may kept.file in
    let begins = (belongs (table_format (kind_by b)) kept.bytes contents there.1).file.begins in
    let opens = opens_own b kept.bytes contents there.1 in
    record {
      bytes = kept.bytes;
      may = there.0;
      are_bytes = held_bytes mid.files table.name (Some kept.bytes) are kept.may;
      opens = opens;
      keeps =
          link_kept table given.white.items given.black.items kept.bytes
          (leans_by b kept.bytes begins) (sym kept.white_is) (sym kept.black_is);
      within = within_loading kept.bytes contents old mid new opens asked calls more_asked
          more_calls;
    }
