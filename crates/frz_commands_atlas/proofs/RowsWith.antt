-- A row for each move, made one after another.
use Rattle.std.proofs.Common.{◌≡◌, sym, ap, subst, ◌∙◌, ℕ, ◌+◌, ◌<◌, List, [], ◌∷◌, ◌++◌, map, take, length, get_or, Option, IfSome}
use Rattle.std.specs.List.{All}
use Rattle.std.proofs.lemmas.List.{get_or-map, map-append, take_more}
use Rattle.frz_board.specs.declared.man.Colour.{Colour}
use Rattle.frz_board.specs.declared.man.Colour.TheVariants.{White, Black}
use Rattle.frz_board.specs.Moving.{Step}
use Rattle.frz_sets.specs.declared.exit.Value.{Value}
use Rattle.frz_arena.specs.declared.arm.Arm.{Arm}
use Rattle.frz_graph.specs.EntryCodes.{arm_code, IsWithin}
use Rattle.frz_store.specs.Files.{Files}
use Rattle.frz_table.specs.Tables.{Table, table_size}
use Rattle.frz_ways.specs.Kept.{told_codes, MayRead}
use Rattle.frz_ways.specs.Reads.{AreApart, AreCodesFor}
use Rattle.frz_ways.proofs.Lemmas.{gathered_codes_may_be_read}
use Rattle.frz_commands_atlas.specs.declared.rows.Row.{Row}
use Rattle.frz_commands_atlas.specs.MoveRows.{row_by}

-- the code that stands at the place of a move is its own
code_there : (side : Colour) (codes read : List ℕ) (arms : List (Arm Step ℕ Value)) (i code : ℕ)
    (a : Arm Step ℕ Value) → i < length arms → a ≡ get_or arms i a → code ≡ get_or read i code
    → read ≡ map (arm_code side codes) arms → code ≡ arm_code side codes a
code_there side codes read arms i code a here is at same =
    at ∙ ap (λ (l : List ℕ). get_or l i code) same
    ∙ get_or-map (arm_code side codes) arms i a code here
    ∙ ap (arm_code side codes) (sym is)

-- one row more
pub row_more : (arms : List (Arm Step ℕ Value)) (w b white black : List ℕ) (rows now : List Row)
    (i : ℕ) (row : Row) → i < length arms → row.arm ≡ get_or arms i row.arm
    → row.white ≡ get_or white i row.white → row.black ≡ get_or black i row.black
    → white ≡ map (arm_code White w) arms → black ≡ map (arm_code Black b) arms
    → rows ≡ map (row_by w b) (take i arms) → now ≡ rows ++ row ∷ []
    → now ≡ map (row_by w b) (take (i + 1) arms)
row_more arms w b white black rows now i row here is white_at black_at whites blacks done pushed =
    let white_is = code_there White w white arms i row.white row.arm here is white_at whites in
    let black_is = code_there Black b black arms i row.black row.arm here is black_at blacks in
    let made : row ≡ row_by w b row.arm =
    ap (λ (k : ℕ). record { arm = row.arm; white = k; black = row.black }) white_is
    ∙ ap (λ (k : ℕ). record { arm = row.arm; white = arm_code White w row.arm; black = k })
    black_is in
    let more : take (i + 1) arms ≡ take i arms ++ row.arm ∷ [] =
    take_more arms i row.arm here
    ∙ ap (λ (a : Arm Step ℕ Value). take i arms ++ a ∷ []) (sym is) in
    pushed ∙ ap (λ (l : List Row). l ++ row ∷ []) done
    ∙ ap (λ (r : Row). map (row_by w b) (take i arms) ++ r ∷ []) made
    ∙ sym (ap (map (row_by w b)) more
    ∙ map-append (row_by w b) (take i arms) (row.arm ∷ []))

-- the codes that were read for the moves of a number are those of some codes that may be read
pub rows_gathered : (table : Table) (told mid : Option Files)
    (arms nexts : List (Arm Step ℕ Value)) (white black : List ℕ) (rows : List Row)
    → nexts ≡ arms → All (λ a. IsWithin (table_size table) a.next) arms → AreApart arms
    → mid ≡ told → AreCodesFor White nexts white
    → IfSome (told_codes table White told) (λ kept. white ≡ map (arm_code White kept) nexts)
    → AreCodesFor Black nexts black
    → IfSome (told_codes table Black mid) (λ kept. black ≡ map (arm_code Black kept) nexts)
    → ((w b : List ℕ) → white ≡ map (arm_code White w) nexts
    → black ≡ map (arm_code Black b) nexts → rows ≡ map (row_by w b) nexts)
    → (w b : List ℕ) × MayRead (told_codes table White told) (table_size table) w
    × MayRead (told_codes table Black told) (table_size table) b × (rows ≡ map (row_by w b) arms)
rows_gathered table told mid arms nexts white black rows are within apart same for_white whites
    for_black blacks made =
    let all = subst (λ (l : List (Arm Step ℕ Value)). All (λ a. IsWithin (table_size table) a.next)
    l) (sym are) within in
    let different = subst (λ (l : List (Arm Step ℕ Value)). AreApart l) (sym are) apart in
    let w = gathered_codes_may_be_read (told_codes table White told) White (table_size table) nexts
    white all different
    for_white whites in
    let b = gathered_codes_may_be_read (told_codes table Black told) Black (table_size table) nexts
    black all different
    for_black (subst (λ (o : Option Files). IfSome (told_codes table Black o)
    (λ kept. black ≡ map (arm_code Black kept) nexts)) same blacks) in
    (w.0, b.0, w.1, b.1, made w.0 b.0 w.2 b.2 ∙ ap (map (row_by w.0 b.0)) are)
