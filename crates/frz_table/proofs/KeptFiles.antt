-- What a name may hold whose codes were loaded.
use Rattle.std.proofs.Common.{◌≡◌, [], refl, sym, ℕ, zero, suc, ◌∷◌, lit<, ◌^◌, ◌<◌, ◌≤◌, List, ◌++◌, length, get_or, Option, Some, None, Bool, true, false, Result, Ok, IfSome, arith, cond, ltb}
use Rattle.std.specs.Prelude.{IsSomeAnd}
use Rattle.std.specs.List.{list_all}
use Rattle.std.specs.Int.{w32, to_le_bytes}
use Rattle.std.proofs.lemmas.Bool.{and_parts, ltb-true, ltb-false}
use Rattle.frz_board.specs.declared.man.Colour.TheVariants.{White, Black}
use Rattle.frz_sets.specs.Views.{RuleLines}
use Rattle.frz_rules.specs.Text.{rules_of, too_long}
use Rattle.frz_rules.specs.declared.fault.RulesFault.{RulesFault}
use Rattle.frz_store.specs.Files.{Files}
use Rattle.frz_table.specs.declared.kind.FileKind.{FileKind}
use Rattle.frz_table.specs.declared.kind.FileKind.TheVariants.{Plain, Chained, Atlas}
use Rattle.frz_table.specs.Layout.{magic_of, header_of, file_of, codes_at}
use Rattle.frz_table.specs.Numbers.{AreBytes, number_bytes}
use Rattle.frz_table.specs.Possible.{MayKeepCodes}
use Rattle.frz_table.specs.Steps.{AreLoaded}
use Rattle.frz_table.specs.Tables.{Holds, IsTableFile}
use Rattle.frz_table.proofs.Files.{written_belongs, written_is_loaded}
use Rattle.frz_table.proofs.Made.{AreBytes-append, AreBytes-number, AreBytes-number_bytes}

not_too_long : (b : Bool) (rest : Result RuleLines RulesFault) (rules : RuleLines)
    → cond b too_long rest ≡ Ok rules → b ≡ false
not_too_long true rest rules read = absurd (cc)
not_too_long false rest rules read = refl

-- rules that are read have a text that is short enough
pub read_short : (text : List ℕ) (rules : RuleLines) → rules_of text ≡ Ok rules
    → length text ≤ 65536
unfolding rules_of
read_short text rules read =
    ltb-false 65536 (length text) (not_too_long (ltb 65536 (length text)) _ rules read)

pub magic_long : (kind : FileKind) → length (magic_of kind) ≡ 8
magic_long Plain = refl
magic_long Chained = refl
magic_long Atlas = refl

pub short_bytes : (xs : List ℕ) → list_all (λ x. ltb x 256) xs ≡ true → (i : ℕ)
    → get_or xs i 0 < 256
short_bytes [] h i = lit< tt
short_bytes (x ∷ xs) h zero =
    ltb-true x 256 (and_parts (ltb x 256) (list_all (λ y. ltb y 256) xs) h).0
short_bytes (x ∷ xs) h (suc i) =
    short_bytes xs (and_parts (ltb x 256) (list_all (λ y. ltb y 256) xs) h).1 i

pub magic_bytes : (kind : FileKind) → AreBytes (magic_of kind)
magic_bytes Plain = short_bytes (magic_of Plain) refl
magic_bytes Chained = short_bytes (magic_of Chained) refl
magic_bytes Atlas = short_bytes (magic_of Atlas) refl

-- a magic, a text and a size that a file can have
pub record IsHead (magic text : List ℕ) (size : ℕ) : Type 0 where
  pub eight : length magic ≡ 8
  pub magic_bytes : AreBytes magic
  pub text_bytes : AreBytes text
  pub short : length text ≤ 65536
  pub fits : size < 2 ^ 32

-- behind a magic and a text of bytes a file holds bytes
pub file_bytes : (magic text : List ℕ) (size : ℕ) (white black : List ℕ) → AreBytes magic
    → AreBytes text → AreBytes (file_of magic text size white black)
file_bytes magic text size white black magic_are text_are =
    AreBytes-append (header_of magic text size) (number_bytes white ++ number_bytes black)
    (AreBytes-append magic (to_le_bytes w32 (length text) ++ (text ++ to_le_bytes w32 size))
    magic_are
    (AreBytes-append (to_le_bytes w32 (length text)) (text ++ to_le_bytes w32 size)
    (AreBytes-number (length text))
    (AreBytes-append text (to_le_bytes w32 size) text_are (AreBytes-number size))))
    (AreBytes-append (number_bytes white) (number_bytes black) (AreBytes-number_bytes white)
    (AreBytes-number_bytes black))

-- a file with the codes that were loaded
written_file : (files : Option Files) (name magic text : List ℕ) (size : ℕ) (white black : List ℕ)
    → IsHead magic text size
    → AreLoaded files name text size white black
    → MayKeepCodes None name magic text size white black
written_file files name magic text size white black h l =
    let codes = written_is_loaded magic text size white black h.eight l.white_long l.black_long
    l.white_fit l.black_fit in
    record {
      bytes = file_of magic text size white black;
      may = file_bytes magic text size white black h.magic_bytes h.text_bytes;
      file = written_belongs magic text size white black h.eight (omega (arith, h.short)) h.fits
          l.white_long l.black_long;
      white_is = codes.0;
      black_is = codes.1;
    }

-- the codes that were loaded are codes that the name may hold
pub may_keep : (files : Option Files) (name magic text : List ℕ) (size : ℕ) (white black : List ℕ)
    → IsHead magic text size
    → Holds files name (IsTableFile magic text size) → AreLoaded files name text size white black
    → MayKeepCodes files name magic text size white black
may_keep None name magic text size white black h held l =
    written_file None name magic text size white black h l
may_keep (Some m) name magic text size white black h held l =
    by_held (m name) refl held l.white_is l.black_is
  where
    by_held : (o : Option (List ℕ)) → m name ≡ o → IsSomeAnd o (IsTableFile magic text size)
        → IfSome o (λ bytes. white ≡ codes_at White text size bytes)
        → IfSome o (λ bytes. black ≡ codes_at Black text size bytes)
        → MayKeepCodes (Some m) name magic text size white black
    by_held None same f p q = absurd f
    by_held (Some bytes) same f p q =
        record { bytes = bytes; may = same; file = f; white_is = sym p; black_is = sym q }
