-- What a name holds by what the store tells, and the text that a file of a table keeps.
use Rattle.std.proofs.Common.{◌≡◌, ap, subst, ◌∙◌, ℕ, zero, suc, ◌<◌, List, [], ◌∷◌, take, drop, length, get_or, Option, None, Some, lit<}
use Rattle.std.specs.Prelude.{IfSome}
use Rattle.frz_store.specs.Bytes.{AreBytes, HoldsBytes}
use Rattle.frz_store.specs.Files.{Files}
use Rattle.frz_table.specs.Opening.{kept_text}
use Rattle.frz_table.specs.Possible.{MayHold}
use Rattle.frz_table.specs.Tables.{IsTableFile}

-- the name holds this, where the store tells
pub same_held : (told : Option Files) (name : List ℕ) (held : Option (List ℕ))
    → MayHold told name held → IfSome told (λ m. m name ≡ held)
same_held None name held may = tt
same_held (Some m) name held may = may

-- what a name may hold are bytes, where what the store tells are bytes
pub held_bytes : (told : Option Files) (name : List ℕ) (held : Option (List ℕ))
    → IfSome told HoldsBytes → MayHold told name held → IfSome held AreBytes
held_bytes None name held are may = may
held_bytes (Some m) name held are may =
    subst (λ (o : Option (List ℕ)). IfSome o AreBytes) may (are name)

-- parts of bytes are bytes
take_bytes : (n : ℕ) (bytes : List ℕ) → AreBytes bytes → (i : ℕ) → get_or (take n bytes) i 0 < 256
take_bytes zero bytes are i = lit< tt
take_bytes (suc n) [] are i = lit< tt
take_bytes (suc n) (b ∷ bytes) are zero = are 0
take_bytes (suc n) (b ∷ bytes) are (suc i) = take_bytes n bytes (λ j. are (suc j)) i

drop_bytes : (n : ℕ) (bytes : List ℕ) → AreBytes bytes → AreBytes (drop n bytes)
drop_bytes zero bytes are = are
drop_bytes (suc n) [] are = are
drop_bytes (suc n) (b ∷ bytes) are = drop_bytes n bytes (λ j. are (suc j))

-- the text in a file of a table is its text
pub text_kept : (magic text : List ℕ) (size : ℕ) (bytes : List ℕ)
    → IsTableFile magic text size bytes → kept_text bytes ≡ text
text_kept magic text size bytes file =
    ap (λ (n : ℕ). take n (drop 12 bytes)) file.counted ∙ file.has_text

-- and it is one of bytes
pub text_bytes : (magic text : List ℕ) (size : ℕ) (bytes : List ℕ)
    → IsTableFile magic text size bytes → AreBytes bytes → AreBytes text
text_bytes magic text size bytes file are =
    subst (λ (l : List ℕ). AreBytes l) file.has_text
    (take_bytes (length text) (drop 12 bytes) (drop_bytes 12 bytes are))
