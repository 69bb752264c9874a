-- What opens, or is refused, as the kind of its first bytes.
use Rattle.std.proofs.Common.{◌≡◌, refl, sym, ap, subst, ℕ, List, take, Option, None, Some, Bool, true, false, Result, Ok, Err, arith}
use Rattle.std.specs.Prelude.{IfErr, IfOk}
use Rattle.std.specs.Str.{bytes_eq}
use Rattle.frz_store.specs.Files.{Files}
use Rattle.frz_store.specs.Told.{StoreTold}
use Rattle.frz_table.specs.declared.fault.TableFault.{TableFault}
use Rattle.frz_table.specs.declared.kind.FileKind.{FileKind}
use Rattle.frz_table.specs.declared.kind.FileKind.TheVariants.{Atlas}
use Rattle.frz_table.specs.Layout.{kind_by, magic_of}
use Rattle.frz_table.specs.Opening.{Contents, IsOfKind, contents_of, opened, own_format, table_format}
use Rattle.frz_table.specs.Possible.{MayHold, MayOpen, MayRefuse}
use Rattle.frz_table.specs.Tables.{Table}
use Rattle.frz_table.proofs.Lemmas.{belongs, opens_by}
use Rattle.frz_atlas.specs.Behind.{kind_of, leans}
use Rattle.frz_atlas.specs.Opening.{IsOwnKind, MayOpenOwn, MayRefuseOwn}

-- bytes with the magic of a kind lean on others as that kind does
pub leans_by : (b : Bool) (bytes : List ℕ) → take 8 bytes ≡ magic_of (kind_by b) → leans bytes ≡ b
leans_by true bytes e = ap (λ (l : List ℕ). bytes_eq l (magic_of Atlas)) e
leans_by false bytes e = ap (λ (l : List ℕ). bytes_eq l (magic_of Atlas)) e

pub own_kind : (files : Option Files) (name : List ℕ) (kind : FileKind)
    → IsOfKind files name None kind → IsOwnKind kind
own_kind files name kind h =
    subst (λ (k : FileKind). IsOwnKind k) (sym h.is) (either_way (bytes_eq h.front (magic_of Atlas)))
  where
    either_way : (leaning : Bool) → IsOwnKind (kind_by leaning)
    either_way true = refl
    either_way false = refl

-- what opens as its own kind is a file of that kind, and the other way round
pub of_own : (bytes : List ℕ) (contents : Contents) → opened own_format (Some bytes) ≡ Ok contents
    → opened (table_format (kind_of bytes)) (Some bytes) ≡ Ok contents
of_own bytes contents opens =
    let o = belongs own_format bytes contents opens in
    opens_by (table_format (kind_of bytes)) bytes contents
    (record { file = o.file; short = o.short; read = o.read })

pub as_own : (bytes : List ℕ) (contents : Contents)
    → opened (table_format (kind_of bytes)) (Some bytes) ≡ Ok contents
    → opened own_format (Some bytes) ≡ Ok contents
as_own bytes contents opens =
    let o = belongs (table_format (kind_of bytes)) bytes contents opens in
    opens_by own_format bytes contents (record { file = o.file; short = o.short; read = o.read })

-- what opens as one kind or the other opens so as its own
pub opens_own : (b : Bool) (bytes : List ℕ) (contents : Contents)
    → opened (table_format (kind_by b)) (Some bytes) ≡ Ok contents
    → opened own_format (Some bytes) ≡ Ok contents
opens_own b bytes contents opens =
    let e : leans bytes ≡ b = leans_by b bytes
    (belongs (table_format (kind_by b)) bytes contents opens).file.begins in
    as_own bytes contents
    (subst (λ (x : Bool). opened (table_format (kind_by x)) (Some bytes) ≡ Ok contents) (sym e) opens)

pub opened_own : (files : Option Files) (name : List ℕ) (r : Result Table TableFault)
    → IfOk r (λ t. MayOpen own_format files name (contents_of t))
    → IfOk r (λ t. MayOpenOwn files name (contents_of t))
opened_own files name (Ok t) h =
    record { bytes = h.bytes; may = h.may; opens = h.opens }
opened_own files name (Err fault) h = tt

pub refused_own : (name : List ℕ) (old new : StoreTold) (r : Result Table TableFault)
    → IfErr r (MayRefuse own_format name old new) → IfErr r (MayRefuseOwn name old new)
refused_own name old new (Ok t) h = tt
refused_own name old new (Err fault) h = record {
  held = h.held;
  may = h.may;
  refuses = h.refuses;
  asked = (let a = h.asked in omega (arith, a));
}

-- what a name holds, whatever it is
abbrev pub held_by : Option Files → List ℕ → Option (List ℕ)
held_by None name = None
held_by (Some m) name = m name

pub may_be_held : (files : Option Files) (name : List ℕ) → MayHold files name (held_by files name)
may_be_held None name = tt
may_be_held (Some m) name = refl
