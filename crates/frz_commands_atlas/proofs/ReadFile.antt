-- Files that hold the codes that were read of an open table.
use Rattle.std.proofs.Common.{◌≡◌, ◌∙◌, sym, ap, subst, ℕ, List, Option, Some, None, Ok, arith}
use Rattle.std.specs.Prelude.{IsSomeAnd}
use Rattle.std.specs.Option.{option_map}
use Rattle.frz_board.specs.declared.man.Colour.{Colour}
use Rattle.frz_board.specs.declared.man.Colour.TheVariants.{White, Black}
use Rattle.frz_store.specs.Files.{Files}
use Rattle.frz_rules.proofs.Lemmas.{text_sound}
use Rattle.frz_table.specs.declared.kind.FileKind.{FileKind}
use Rattle.frz_table.specs.Layout.{codes_at, file_of, kind_by, magic_of}
use Rattle.frz_table.specs.Opening.{contents_of, opened, own_format, table_format}
use Rattle.frz_table.specs.Possible.{MayHold}
use Rattle.frz_table.specs.Tables.{Carries, IsFileOf, Table, table_size}
use Rattle.frz_table.proofs.Lemmas.{belongs, file_bytes, magic_bytes, magic_long, opens_by, text_bytes, written_belongs, written_is_loaded}
use Rattle.frz_check.specs.Kept.{kept_codes}
use Rattle.frz_atlas.specs.Loaded.{leans_as}
use Rattle.frz_atlas.specs.Behind.{kind_of, leans}
use Rattle.frz_atlas.specs.Opening.{IsOwnKind, MayOpenOwn}
use Rattle.frz_atlas.proofs.Lemmas.{leans_by, opens_own}
use Rattle.frz_ways.specs.Kept.{told_codes, MayRead}

-- the name may hold bytes that open as the table, lean on others where its kind does, and keep these
-- codes
pub record HoldsRead (files : Option Files) (table : Table) (white black : List ℕ) : Type 0 where
  pub bytes : List ℕ
  pub may : MayHold files table.name (Some bytes)
  pub opens : opened own_format (Some bytes) ≡ Ok (contents_of table)
  pub leaning : leans bytes ≡ leans_as table.kind
  pub white_is : kept_codes (contents_of table) bytes White ≡ white
  pub black_is : kept_codes (contents_of table) bytes Black ≡ black

-- what is told of a side's codes is what the bytes keep
side_told : (m : Files) (table : Table) (side : Colour) (bytes codes : List ℕ)
    → m table.name ≡ Some bytes → MayRead (told_codes table side (Some m)) (table_size table) codes
    → kept_codes (contents_of table) bytes side ≡ codes
side_told m table side bytes codes there may =
    sym (subst (λ (o : Option (List ℕ)). MayRead (option_map
    (codes_at side table.text (table_size table)) o) (table_size table) codes) there may)

-- a file of the table leans on others where its kind does
file_leans : (table : Table) (bytes : List ℕ) → IsOwnKind table.kind → IsFileOf table bytes
    → leans bytes ≡ leans_as table.kind
file_leans table bytes own file =
    leans_by (leans_as table.kind) bytes (file.begins ∙ ap magic_of own)

pub holds_read : (files : Option Files) (table : Table) (white black : List ℕ)
    → MayOpenOwn files table.name (contents_of table) → IsOwnKind table.kind
    → Carries files table → MayRead (told_codes table White files) (table_size table) white
    → MayRead (told_codes table Black files) (table_size table) black
    → HoldsRead files table white black
holds_read (Some m) table white black opens own carries may_white may_black = record {
  bytes = opens.bytes;
  may = opens.may;
  opens = opens.opens;
  leaning = file_leans table opens.bytes own
      (subst (λ (o : Option (List ℕ)). IsSomeAnd o (IsFileOf table)) opens.may carries);
  white_is = side_told m table White opens.bytes white opens.may may_white;
  black_is = side_told m table Black opens.bytes black opens.may may_black;
}
holds_read None table white black opens own carries may_white may_black =
    let b = leans_as table.kind in
    let kind : FileKind = kind_by b in
    let size = table_size table in
    let magic = magic_of kind in
    let file = file_of magic table.text size white black in
    let is = belongs own_format opens.bytes (contents_of table) opens.opens in
    let short = is.short in
    let few = (text_sound table.text table.rules is.read).size in
    let codes = written_is_loaded magic table.text size white black (magic_long kind) may_white.0
    may_black.0 may_white.1 may_black.1 in
    let written = written_belongs magic table.text size white black (magic_long kind)
    (omega (arith, short)) (omega (arith, few)) may_white.0 may_black.0 in
    record {
      bytes = file;
      may = file_bytes magic table.text size white black (magic_bytes kind)
          (text_bytes (magic_of (kind_of opens.bytes)) table.text size opens.bytes is.file
          opens.may);
      opens = opens_own b file (contents_of table)
          (opens_by (table_format kind) file (contents_of table)
          (record { file = written; short = is.short; read = is.read }));
      leaning = leans_by b file written.begins;
      white_is = codes.0;
      black_is = codes.1;
    }
