-- Files that hold at once what each of several names may hold, of which no two are one.
use Rattle.std.proofs.Common.{◌≡◌, refl, sym, ap, subst, ◌∙◌, ℕ, zero, suc, ◌<◌, List, [], ◌∷◌, length, Bool, true, false, ◌||◌, Option, Some, None, if◌then◌else◌, IfSome, arith}
use Rattle.std.specs.Prelude.{map, Contains}
use Rattle.std.specs.List.{list_any}
use Rattle.std.specs.Str.{bytes_eq}
use Rattle.std.proofs.lemmas.Slice.Eq.{bytes_eq-Decides}
use Rattle.frz_store.specs.Bytes.{AreBytes, HoldsBytes, MayBeHeld}
use Rattle.frz_store.specs.Files.{Files, no_files}
use Rattle.frz_table.specs.Possible.{MayHold}
use Rattle.frz_atlas.specs.Behind.{AreJudgedOver, IsRefusedAt, TableBytes}
use Rattle.frz_atlas.specs.Held.{MayHoldAll, all_held}
use Rattle.frz_atlas.specs.declared.fault.BackFault.{BackFault}
use Rattle.frz_atlas.specs.Books.{Back}
use Rattle.frz_atlas_prelude.specs.Names.{has_twice}
use Rattle.frz_atlas_prelude.specs.Tables.{AreExactOver}
use Rattle.frz_atlas_prelude.proofs.TablesOnce.{with_table}

neither_is_true : (a b : Bool) → (a || b) ≡ false → (a ≡ false) × (b ≡ false)
neither_is_true true b h = absurd cc
neither_is_true false b h = (refl, h)

abbrev is_among : List ℕ → List (List ℕ) → Bool
is_among name names = list_any (λ other. bytes_eq other name) names

-- where no two names are the same, the first is not among the others, and no two of these are the
-- same
pub first_differs_from_others : (name : List ℕ) (names : List (List ℕ))
    → has_twice (name ∷ names) ≡ false
    → (is_among name names ≡ false) × (has_twice names ≡ false)
first_differs_from_others name names h = neither_is_true (is_among name names) (has_twice names) h

-- where no two names are the same, this stays so without the second name
pub without_second : (first second : List ℕ) (names : List (List ℕ))
    → has_twice (first ∷ second ∷ names) ≡ false → has_twice (first ∷ names) ≡ false
without_second first second names h =
    let outer = first_differs_from_others first (second ∷ names) h in
    let inner = first_differs_from_others second names outer.1 in
    let apart = neither_is_true (bytes_eq second first) (is_among first names) outer.0 in
    rw (apart.1, inner.1) refl

-- a name that is not among them is none of them
pub not_contained : (name : List ℕ) (names : List (List ℕ)) → is_among name names ≡ false
    → Contains names name → ⊥
not_contained name [] h (k, here, is) = absurd (omega arith)
not_contained name (other ∷ names) h (zero, here, is) =
    let apart = neither_is_true (bytes_eq other name) (is_among name names) h in
    let same : bytes_eq other name ≡ true = (bytes_eq-Decides other name).1 is in
    let no : true ≡ false = sym same ∙ apart.0 in cc
not_contained name (other ∷ names) h (suc k, here, is) =
    let apart = neither_is_true (bytes_eq other name) (is_among name names) h in
    not_contained name names apart.1 (k, omega arith, is)

-- the files where one name holds this instead
abbrev instead : Files → List ℕ → Option (List ℕ) → Files
instead files name held = λ q. if bytes_eq q name then held else files q

instead_here : (files : Files) (name : List ℕ) (held : Option (List ℕ))
    → instead files name held name ≡ held
instead_here files name held =
    ap (λ (b : Bool). if b then held else files name) ((bytes_eq-Decides name name).1 refl)

instead_off : (files : Files) (name : List ℕ) (held : Option (List ℕ)) (names : List (List ℕ))
    → is_among name names ≡ false → map (instead files name held) names ≡ map files names
instead_off files name held [] h = refl
instead_off files name held (other ∷ names) h =
    let apart = neither_is_true (bytes_eq other name) (is_among name names) h in
    ap (λ (b : Bool). (if b then held else files other) ∷ map (instead files name held) names)
    apart.0
    ∙ ap (λ (l : List (Option (List ℕ))). files other ∷ l)
    (instead_off files name held names apart.1)

either_bytes : (b : Bool) (held other : Option (List ℕ)) → IfSome held AreBytes
    → IfSome other AreBytes → IfSome (if b then held else other) AreBytes
either_bytes true held other h k = h
either_bytes false held other h k = k

-- files that may be held, where the names hold these
pub record HoldingAll (told : Option Files) (names : List (List ℕ))
    (helds : List (Option (List ℕ))) : Type 0 where
  pub files : Files
  pub agrees : MayBeHeld told files
  pub hold : map files names ≡ helds

-- where the store tells, it is what it tells
told_all : (m : Files) (names : List (List ℕ)) (helds : List (Option (List ℕ)))
    → MayHoldAll (Some m) names helds → map m names ≡ helds
unfolding MayHoldAll
told_all m [] [] h = refl
told_all m [] (held ∷ helds) h = absurd h
told_all m (name ∷ names) [] h = absurd h
told_all m (name ∷ names) (held ∷ helds) h =
    ap (λ (x : Option (List ℕ)). x ∷ map m names) h.0
    ∙ ap (λ (l : List (Option (List ℕ))). held ∷ l) (told_all m names helds h.1)

untold_all : (names : List (List ℕ)) (helds : List (Option (List ℕ))) → has_twice names ≡ false
    → MayHoldAll None names helds → HoldingAll None names helds
unfolding MayHoldAll
untold_all [] [] apart h = record { files = no_files; agrees = λ q. tt; hold = refl }
untold_all [] (held ∷ helds) apart h = absurd h
untold_all (name ∷ names) [] apart h = absurd h
untold_all (name ∷ names) (held ∷ helds) apart h =
    let alone = first_differs_from_others name names apart in
    let rest = untold_all names helds alone.1 h.1 in
    record {
      files = instead rest.files name held;
      agrees = λ q. either_bytes (bytes_eq q name) held (rest.files q) h.0 (rest.agrees q);
      hold = ap (λ (x : Option (List ℕ)). x ∷ map (instead rest.files name held) names)
          (instead_here rest.files name held)
          ∙ ap (λ (l : List (Option (List ℕ))). held ∷ l)
          (instead_off rest.files name held names alone.0 ∙ rest.hold);
    }

pub holding_all : (told : Option Files) (names : List (List ℕ)) (helds : List (Option (List ℕ)))
    → has_twice names ≡ false → MayHoldAll told names helds → HoldingAll told names helds
holding_all (Some m) names helds apart h =
    record { files = m; agrees = refl; hold = told_all m names helds h }
holding_all None names helds apart h = untold_all names helds apart h

-- one name more
pub may_hold_first : (told : Option Files) (name : List ℕ) (held : Option (List ℕ))
    (names : List (List ℕ)) (helds : List (Option (List ℕ))) → MayHold told name held
    → MayHoldAll told names helds → MayHoldAll told (name ∷ names) (held ∷ helds)
unfolding MayHoldAll
may_hold_first told name held names helds h k = (h, k)

-- what files that may be held hold under a name, it may hold
pub may_hold_there : (told : Option Files) (files : Files) (name : List ℕ) → MayBeHeld told files
    → MayHold told name (files name)
may_hold_there None files name are = are name
may_hold_there (Some m) files name is = ap (λ (f : Files). f name) is

-- as many as there are names
pub as_many_as_names : (told : Option Files) (names : List (List ℕ))
    (helds : List (Option (List ℕ)))
    → MayHoldAll told names helds → length helds ≡ length names
unfolding MayHoldAll
as_many_as_names told [] [] h = refl
as_many_as_names told [] (held ∷ helds) h = absurd h
as_many_as_names told (name ∷ names) [] h = absurd h
as_many_as_names told (name ∷ names) (held ∷ helds) h = ap suc
    (as_many_as_names told names helds h.1)

-- the place that is refused is one of theirs
pub place_below : (before : List Back) (helds : List (Option (List ℕ))) (place : ℕ)
    (fault : BackFault) → IsRefusedAt before helds place fault → place < length helds
unfolding IsRefusedAt
place_below before [] place fault h = absurd h
place_below before (held ∷ helds) zero fault h = omega arith
place_below before (held ∷ helds) (suc place) fault (table, there, judged, h) =
    let below = place_below (with_table before table) helds place fault h in omega (arith, below)

-- tables that were judged so are exact
pub judged_exact : (before : List Back) (tables : List TableBytes) → AreJudgedOver before tables
    → AreExactOver before tables
unfolding AreJudgedOver AreExactOver
judged_exact before [] h = tt
judged_exact before (table ∷ tables) h =
    (h.1, judged_exact (with_table before table) tables h.2)

-- exact tables of files of bytes were judged so
pub judged_over : (files : Files) → HoldsBytes files → (before : List Back) (names : List (List ℕ))
    (tables : List TableBytes) → map files names ≡ all_held tables → AreExactOver before tables
    → AreJudgedOver before tables
unfolding AreExactOver AreJudgedOver
judged_over files are before [] [] e h = tt
judged_over files are before [] (table ∷ tables) e h = cc
judged_over files are before (name ∷ names) [] e h = tt
judged_over files are before (name ∷ names) (table ∷ tables) e h =
    let there : files name ≡ Some table.bytes = cc in
    let rest : map files names ≡ all_held tables = cc in (
      subst (λ (o : Option (List ℕ)). IfSome o AreBytes) there (are name),
      h.0,
      judged_over files are (with_table before table) names tables rest h.1,
    )

-- of two lists that are equal, the first elements and the rest
pub same_first : (a b : Option (List ℕ)) (xs ys : List (Option (List ℕ))) → (a ∷ xs) ≡ (b ∷ ys) → a ≡ b
same_first a b xs ys e = cc

pub same_rest : (a b : Option (List ℕ)) (xs ys : List (Option (List ℕ))) → (a ∷ xs) ≡ (b ∷ ys) → xs ≡ ys
same_rest a b xs ys e = cc
