-- The first table whose set holds a position.
use Rattle.std.proofs.Common.{◌≡◌, ◌<◌, ◌≤◌, ◌+◌, ℕ, suc, false, List, [], ◌∷◌, Bool, Option, None, Some, length, get_or, drop, map, refl, sym, subst, ap, ◌∙◌, inl, inr, arith}
use Rattle.std.specs.Prelude.{if◌then◌else◌}
use Rattle.std.proofs.lemmas.Bool.{cases_Bool}
use Rattle.std.proofs.lemmas.List.{at_drop_all, at_drop_more}
use Rattle.frz_board.specs.Boards.{Board}
use Rattle.frz_sets.specs.Views.{GroupLine}
use Rattle.frz_sets.specs.declared.exit.Value.{Value}
use Rattle.frz_sets.specs.declared.exit.Value.TheVariants.{WhiteWins, BlackWins, Draw, WhiteHolds, BlackHolds, Unknown, WhiteWinsIn, BlackWinsIn}
use Rattle.frz_index.specs.Membership.{is_member, number_of}
use Rattle.frz_index.proofs.Lemmas.{number_back, number_there, of_member}
use Rattle.frz_table.specs.declared.kind.FileKind.{FileKind}
use Rattle.frz_table.specs.declared.kind.FileKind.TheVariants.{Plain, Chained, Atlas}
use Rattle.frz_chain.specs.declared.back.BackTable.{BackTable}
use Rattle.frz_backs.specs.Links.{Link}
use Rattle.frz_backs.specs.Loaded.{leans_as, link_loaded}
use Rattle.frz_journeys.specs.declared.onward.Entry.{Entry}
use Rattle.frz_journeys.specs.Onward.{Finds}
use Rattle.frz_journeys.specs.Tables.{first_from, leant_on, where_unknown}

-- the table in front holds the position, or the rest is looked at
front_holds : (place : ℕ) (table : Link) (tables : List Link) (q : Board)
    → first_from place (table ∷ tables) q
    ≡ (if is_member table.rules.groups q then Some (place, table) else first_from (suc place) tables q)
unfolding first_from
front_holds place table tables q = refl

none_holds : (place : ℕ) (q : Board) → first_from place [] q ≡ None
unfolding first_from
none_holds place q = refl

-- from a place on in the list of the tables that were loaded
abbrev pub first_loaded : ℕ → List BackTable → Board → Option (ℕ × Link)
first_loaded i tables q = first_from i (map link_loaded (drop i tables)) q

table_there : (tables : List BackTable) (i : ℕ) (q : Board) (back : BackTable) → i < length tables
    → back ≡ get_or tables i back
    → first_loaded i tables q
    ≡ (if is_member back.table.rules.groups q then Some (i, link_loaded back)
    else first_from (suc i) (map link_loaded (drop (i + 1) tables)) q)
table_there tables i q back l e =
    at_drop_more (λ ts. first_from i (map link_loaded ts) q) tables i back l
    ∙ (ap (λ b. first_from i (map link_loaded (b ∷ drop (i + 1) tables)) q) (sym e)
    ∙ front_holds i (link_loaded back) (map link_loaded (drop (i + 1) tables)) q)

-- a table whose set holds the position is found
pub table_has : (tables : List BackTable) (i : ℕ) (q : Board) (back : BackTable)
    → i < length tables → back ≡ get_or tables i back → (n : ℕ)
    → number_of back.table.rules.groups q ≡ Some n
    → first_loaded i tables q ≡ Some (i, link_loaded back)
table_has tables i q back l e n has =
    let found = of_member back.table.rules.groups q
    (number_back back.table.rules.groups q n has).member in
    table_there tables i q back l e
    ∙ ap (λ (b : Bool). if b then Some (i, link_loaded back)
    else first_from (suc i) (map link_loaded (drop (i + 1) tables)) q) found

not_member : (groups : List GroupLine) (q : Board) → number_of groups q ≡ None
    → is_member groups q ≡ false
not_member groups q lacks = elim (cases_Bool (is_member groups q)) [
  | inl t ↦ absurd (let k = number_there groups q t in cc)
  | inr f ↦ f
]

-- a table whose set does not hold the position is passed over
pub table_lacks : (tables : List BackTable) (i : ℕ) (q : Board) (back : BackTable)
    → i < length tables → back ≡ get_or tables i back
    → number_of back.table.rules.groups q ≡ None
    → first_loaded i tables q ≡ first_loaded (i + 1) tables q
table_lacks tables i q back l e lacks =
    table_there tables i q back l e
    ∙ (ap (λ (b : Bool). if b then Some (i, link_loaded back)
    else first_from (suc i) (map link_loaded (drop (i + 1) tables)) q)
    (not_member back.table.rules.groups q lacks)
    ∙ ap (λ k. first_from k (map link_loaded (drop (i + 1) tables)) q) (omega arith))

-- past the last table nothing is found
pub none_left : (tables : List BackTable) (i : ℕ) (q : Board) → length tables ≤ i
    → first_loaded i tables q ≡ None
none_left tables i q l =
    at_drop_all (λ ts. first_from i (map link_loaded ts) q) tables i l ∙ none_holds i q

-- a table that does not lean has no other to go on
pub leans_on_none : (kind : FileKind) (tables : List Link) (q : Board) → (kind ≡ Atlas → ⊥)
    → first_from 0 (leant_on (leans_as kind) tables) q ≡ None
leans_on_none Plain tables q other = none_holds 0 q
leans_on_none Chained tables q other = none_holds 0 q
leans_on_none Atlas tables q other = absurd (other refl)

-- exit lines that say something are not passed over
pub lines_first : {A : Type 0} (v : Value) (found : Option A) → (v ≡ Unknown → ⊥)
    → where_unknown v found ≡ None
lines_first WhiteWins found other = refl
lines_first BlackWins found other = refl
lines_first Draw found other = refl
lines_first WhiteHolds found other = refl
lines_first BlackHolds found other = refl
lines_first Unknown found other = absurd (other refl)
lines_first (WhiteWinsIn n) found other = refl
lines_first (BlackWinsIn n) found other = refl

-- what was found where this was due
pub finds_same : (tables : List BackTable) (q : Board) (a b : Option (ℕ × Link))
    (entry : Option Entry) → a ≡ b → Finds tables q a entry → Finds tables q b entry
finds_same tables q a b entry e h =
    subst (λ (o : Option (ℕ × Link)). Finds tables q o entry) e h
