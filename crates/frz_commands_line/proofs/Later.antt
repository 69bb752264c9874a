-- What a store may have held when it was asked again.
use Rattle.std.proofs.Common.{◌≡◌, refl, sym, subst, ap, ◌∙◌, ℕ, zero, suc, List, [], length, Option, Some, None, Ok, arith}
use Rattle.std.specs.Prelude.{IsSomeAnd}
use Rattle.std.specs.Option.{option_map, unwrap_or}
use Rattle.frz_board.specs.declared.man.Colour.{Colour}
use Rattle.frz_board.specs.declared.man.Colour.TheVariants.{White, Black}
use Rattle.frz_store.specs.Files.{Files, no_files, put}
use Rattle.frz_store.proofs.Lemmas.{put_bytes, put-same}
use Rattle.frz_rules.proofs.Lemmas.{text_sound}
use Rattle.frz_table.specs.declared.kind.FileKind.TheVariants.{Plain}
use Rattle.frz_table.specs.Layout.{codes_at, file_of, magic_of}
use Rattle.frz_table.specs.Numbers.{AreBytes, AreNumbers}
use Rattle.frz_table.specs.Opening.{contents_of, opened, table_format}
use Rattle.frz_table.specs.Possible.{MayOpen}
use Rattle.frz_table.specs.Tables.{Table, Carries, IsFileOf, table_size}
use Rattle.frz_table.proofs.Lemmas.{belongs, file_bytes, magic_bytes, text_bytes, magic_long, opens_by, written_belongs, written_is_loaded}
use Rattle.frz_ways.specs.Kept.{told_codes, MayRead}
use Rattle.frz_commands_line.specs.Later.{MayBeLater, OpensAtStart, from_opening, held_later}

-- something that it may have held
pub any_later : (told : Option Files) → (later : ℕ → Files) × MayBeLater told later
any_later None = (λ k. no_files, λ k q. tt)
any_later (Some m) = (λ k. m, λ k. refl)

-- it is the same from an opening in what was held at ply 0
pub as_opened : (later : ℕ → Files) (files : Files) → files ≡ later 0
    → later ≡ from_opening files later
as_opened later files e = λ i k. by_ply k i
  where
    by_ply : (k : ℕ) → later k ≡ from_opening files later k
    by_ply zero = sym e
    by_ply (suc k) = refl

-- the same files are told
pub later_before : {told now : Option Files} (later : ℕ → Files) → now ≡ told
    → MayBeLater now later → MayBeLater told later
later_before later e h = subst (λ (o : Option Files). MayBeLater o later) e h

-- the codes that were read are those that the name held then
pub record Held (told : Option Files) (table : Table) (side : Colour)
    (read : ℕ → List ℕ) : Type 0 where
  pub later : ℕ → Files
  pub may : MayBeLater told later
  pub opens : OpensAtStart later table
  pub same : (k : ℕ) → codes_at side table.text (table_size table)
      (held_later later table.name k) ≡ read k

side_codes : (side : Colour) (table : Table) (codes : List ℕ) → length codes ≡ table_size table
    → AreNumbers codes
    → codes_at side table.text (table_size table)
    (file_of (magic_of Plain) table.text (table_size table) codes codes) ≡ codes
side_codes White table codes long small =
    (written_is_loaded (magic_of Plain) table.text (table_size table) codes codes
    (magic_long Plain) long long small small).0
side_codes Black table codes long small =
    (written_is_loaded (magic_of Plain) table.text (table_size table) codes codes
    (magic_long Plain) long long small small).1

by_name : (table : Table) (side : Colour) (o : Option (List ℕ)) (codes : List ℕ)
    → IsSomeAnd o (IsFileOf table)
    → MayRead (option_map (codes_at side table.text (table_size table)) o) (table_size table) codes
    → codes_at side table.text (table_size table) (unwrap_or o []) ≡ codes
by_name table side None codes carried may = absurd carried
by_name table side (Some bytes) codes carried may = sym may

-- a file of the table's text opens, whatever codes it has
file_opens : {told : Option Files} (table : Table) (codes : List ℕ)
    → MayOpen (table_format Plain) told table.name (contents_of table)
    → length codes ≡ table_size table
    → opened (table_format Plain)
    (Some (file_of (magic_of Plain) table.text (table_size table) codes codes))
    ≡ Ok (contents_of table)
file_opens table codes may long =
    let is = belongs (table_format Plain) may.bytes (contents_of table) may.opens in
    let few = (text_sound table.text table.rules is.read).size in
    opens_by (table_format Plain)
    (file_of (magic_of Plain) table.text (table_size table) codes codes) (contents_of table)
    (record {
      file = written_belongs (magic_of Plain) table.text (table_size table) codes codes
          (magic_long Plain) (let short = is.short in omega (arith, short)) (omega (arith, few))
          long long;
      short = is.short;
      read = is.read;
    })

pub held_codes : (told : Option Files) (table : Table) (side : Colour) (read : ℕ → List ℕ)
    → Carries told table
    → MayOpen (table_format Plain) told table.name (contents_of table)
    → ((k : ℕ) → MayRead (told_codes table side told) (table_size table) (read k))
    → Held told table side read
held_codes None table side read carried opens may =
    let file : ℕ → List ℕ = λ k. file_of (magic_of Plain) table.text (table_size table)
    (read k) (read k) in
    let text_are : AreBytes table.text = text_bytes (magic_of Plain) table.text (table_size table)
    opens.bytes (belongs (table_format Plain) opens.bytes (contents_of table) opens.opens).file
    opens.may in
    record {
      later = λ k. put no_files table.name (file k);
      may = λ k. put_bytes no_files table.name (file k) (λ q. tt)
          (file_bytes (magic_of Plain) table.text (table_size table) (read k) (read k)
          (magic_bytes Plain) text_are);
      opens = ap (opened (table_format Plain)) (put-same no_files table.name (file 0))
          ∙ file_opens table (read 0) opens (may 0).0;
      same = λ k. ap (λ (o : Option (List ℕ)). codes_at side table.text (table_size table)
          (unwrap_or o [])) (put-same no_files table.name (file k))
          ∙ side_codes side table (read k) (may k).0 (may k).1;
    }
held_codes (Some m) table side read carried opens may = record {
  later = λ k. m;
  may = λ k. refl;
  opens = ap (opened (table_format Plain)) opens.may ∙ opens.opens;
  same = λ k. by_name table side (m table.name) (read k) carried (may k);
}
