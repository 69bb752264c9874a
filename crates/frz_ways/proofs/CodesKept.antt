-- The codes that a table file keeps, where the store tells them.
use Rattle.std.proofs.Common.{◌≡◌, ℕ, List, Option, Some, None, IfSome, subst}
use Rattle.std.specs.Prelude.{slice_get, slice_index}
use Rattle.std.specs.Option.{option_map}
use Rattle.std.proofs.lemmas.Option.{get_or_from_slice_get}
use Rattle.frz_board.specs.declared.man.Colour.{Colour}
use Rattle.frz_board.specs.Moving.{Step}
use Rattle.frz_sets.specs.declared.exit.Value.{Value}
use Rattle.frz_sets.specs.Views.{RuleLines}
use Rattle.frz_store.specs.Files.{Files}
use Rattle.frz_arena.specs.Arena.{Arena}
use Rattle.frz_exits.specs.Books.{value_by}
use Rattle.frz_game.specs.Games.{graph_by}
use Rattle.frz_table.specs.Layout.{codes_at}
use Rattle.frz_table.specs.Tables.{Table, table_size}
use Rattle.frz_ways.specs.Kept.{told_codes, MayRead}

code_in : (f : List ℕ → List ℕ) (start code : ℕ) (o : Option (List ℕ))
    → IfSome o (λ bytes. slice_get (f bytes) start ≡ Some code)
    → IfSome (option_map f o) (λ codes. slice_index codes start ≡ code)
code_in f start code None h = tt
code_in f start code (Some bytes) h = get_or_from_slice_get (f bytes) start code 0 h

-- the code that was read is the one of the file
pub code_kept : (table : Table) (side : Colour) (files : Option Files) (start code : ℕ)
    → IfSome files (λ m. IfSome (m table.name)
    (λ bytes. slice_get (codes_at side table.text (table_size table) bytes) start ≡ Some code))
    → IfSome (told_codes table side files) (λ codes. slice_index codes start ≡ code)
code_kept table side None start code h = tt
code_kept table side (Some m) start code h =
    code_in (codes_at side table.text (table_size table)) start code (m table.name) h

-- the codes that may be read are those that might be read before, with the same files
pub may_before : (known : Option Files → Option (List ℕ)) {files now : Option Files} (size : ℕ)
    (codes : List ℕ) → now ≡ files → MayRead (known now) size codes
    → MayRead (known files) size codes
may_before known size codes same h =
    subst (λ (f : Option Files). MayRead (known f) size codes) same h

-- what holds in the game by the rules that were read, with their book, holds in the game by the
-- table's rules
pub by_table : {table : RuleLines} {rules book : RuleLines} (P : Arena Step ℕ Value → Type 0)
    → book ≡ rules → rules ≡ table
    → P (graph_by rules (value_by book)) → P (graph_by table (value_by table))
by_table {table} {rules} {book} P by is h =
    subst (λ (r : RuleLines). P (graph_by r (value_by r))) is
    (subst (λ (r : RuleLines). P (graph_by rules (value_by r))) by h)
