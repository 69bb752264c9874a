-- Whether a name holds a back table that is exact.
use Rattle.std.specs.Prelude.{ℕ, zero, suc, ◌==◌, ◌&&◌, Bool, true, false, List, Option, Some, None, Result, Ok, Err, if◌then◌else◌}
use Rattle.frz_board.specs.declared.man.Colour.{Colour}
use Rattle.frz_board.specs.declared.man.Colour.TheVariants.{White, Black}
use Rattle.frz_sets.specs.Sets.{size_of}
use Rattle.frz_arena.specs.Arena.{Arena}
use Rattle.frz_exits.specs.Books.{value_by}
use Rattle.frz_game.specs.Games.{graph_by}
use Rattle.frz_table.specs.declared.fault.TableFault.{TableFault}
use Rattle.frz_table.specs.declared.kind.FileKind.TheVariants.{Plain}
use Rattle.frz_table.specs.Opening.{Contents, opened, table_format}
use Rattle.frz_build.specs.Kept.{kept_codes}
use Rattle.frz_build.specs.Verdicts.{given_code, kept_code}

-- the codes of both sides at the number are their local codes
abbrev pub agree_at : {M V : Type 0} → Arena M ℕ V → (Colour → List ℕ) → ℕ → Bool
agree_at arena codes i =
    (kept_code codes White i == given_code arena codes White i)
    && (kept_code codes Black i == given_code arena codes Black i)

-- the codes agree with their local codes at each number below this one
unfoldable pub all_agree : {M V : Type 0} → Arena M ℕ V → (Colour → List ℕ) → ℕ → Bool
all_agree arena codes zero = true
all_agree arena codes (suc n) = all_agree arena codes n && agree_at arena codes n

-- the bytes opened, and each code is its local code in the game of their rules and their own exit
-- lines
abbrev pub is_exact_by : Result Contents TableFault → List ℕ → Bool
is_exact_by (Ok contents) bytes =
    all_agree (graph_by contents.rules (value_by contents.rules)) (kept_codes contents bytes)
    (size_of contents.rules.groups)
is_exact_by (Err fault) bytes = false

-- what is held is a plain table, and each of its codes is its local code
unfoldable pub is_exact : Option (List ℕ) → Bool
is_exact None = false
is_exact (Some bytes) = is_exact_by (opened (table_format Plain) (Some bytes)) bytes

-- the count if what is held is exact, else 0
abbrev pub if_exact : Option (List ℕ) → ℕ → ℕ
if_exact held count = if is_exact held then count else 0
