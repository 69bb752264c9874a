-- Several tables that were opened and loaded, and the first that is refused.
use Rattle.std.proofs.Common.{◌≡◌, refl, ap, subst, ◌∙◌, ℕ, suc, ◌<◌, List, [], ◌∷◌, ◌++◌, length, map, Option, Some, Result, Ok, Err, arith}
use Rattle.frz_store.specs.Told.{StoreTold}
use Rattle.frz_table.specs.declared.fault.TableFault.{TableFault}
use Rattle.frz_table.specs.Opening.{Contents, Refuses, contents_of}
use Rattle.frz_backs.specs.Books.{Back}
use Rattle.frz_backs.specs.FileOn.{back_of}
use Rattle.frz_backs.specs.BackTable.{BackTable}
use Rattle.frz_backs.specs.Loaded.{link_loaded}
use Rattle.frz_atlas.specs.Behind.{AreJudgedOver, TableBytes}
use Rattle.frz_atlas.specs.Causes.{back_fault}
use Rattle.frz_atlas.specs.Held.{all_held}
use Rattle.frz_atlas.specs.Loading.{IsOneUnopened, LoadsAll, LoadsOne, RefusesToLoad, in_front, opened_all, opened_before, opened_own}
use Rattle.frz_atlas.specs.declared.fault.AtlasFault.{AtlasFault}
use Rattle.frz_atlas.specs.declared.fault.BackFault.TheVariants.{Refused}
use Rattle.frz_atlas.proofs.Causes.{by_back}
use Rattle.frz_atlas.proofs.Several.{AllFound, AllGood, NotFound, OneFound}

abbrev Opened : Type 0
Opened = Result (List TableBytes) (ℕ × TableFault)

abbrev pub Opens : List Back → TableBytes → Type 0
Opens before t = opened_own (Some t.bytes) ≡ Ok t.contents

-- one before others
pub opens_first : (table : TableBytes) (helds : List (Option (List ℕ))) (others : Opened)
    → opened_own (Some table.bytes) ≡ Ok table.contents → opened_all helds ≡ others
    → opened_all (Some table.bytes ∷ helds) ≡ in_front table others
unfolding opened_all
opens_first table helds others opens are =
    ap (λ (x : Result Contents TableFault). opened_before (Some table.bytes) x (opened_all helds))
    opens
    ∙ ap (λ (x : Opened). in_front table x) are

-- exact tables open
pub judged_open : (before : List Back) (tables : List TableBytes) → AreJudgedOver before tables
    → opened_all (all_held tables) ≡ Ok tables
unfolding AreJudgedOver opened_all
judged_open before [] h = refl
judged_open before (table ∷ tables) h =
    opens_first table (all_held tables) (Ok tables) h.1.opens
    (judged_open (before ++ (back_of table.contents table.bytes ∷ [])) tables h.2)

all_open : (before : List Back) (tables : List TableBytes) → AllGood Opens before tables
    → opened_all (all_held tables) ≡ Ok tables
unfolding AllGood opened_all
all_open before [] h = refl
all_open before (t ∷ tables) h =
    opens_first t (all_held tables) (Ok tables) h.0
    (all_open (before ++ (back_of t.contents t.bytes ∷ [])) tables h.1)

-- what comes behind those that open is the first that is refused
refused_last : (before : List Back) (tables : List TableBytes) (held : Option (List ℕ))
    (rest : List (Option (List ℕ))) (fault : TableFault) → AllGood Opens before tables
    → opened_own held ≡ Err fault
    → opened_all (all_held tables ++ (held ∷ rest)) ≡ Err (length tables, fault)
unfolding AllGood opened_all
refused_last before [] held rest fault all refused =
    ap (λ (x : Result Contents TableFault). opened_before held x (opened_all rest)) refused
refused_last before (t ∷ tables) held rest fault all refused =
    opens_first t (all_held tables ++ (held ∷ rest)) (Err (length tables, fault)) all.0
    (refused_last (before ++ (back_of t.contents t.bytes ∷ [])) tables held rest fault all.1 refused)

-- the place that is refused is one of theirs
refused_below : (held : Option (List ℕ)) (x : Result Contents TableFault) (others : Opened)
    (many place : ℕ) (fault : TableFault)
    → ((at : ℕ) (f : TableFault) → others ≡ Err (at, f) → at < many)
    → opened_before held x others ≡ Err (place, fault) → place < suc many
refused_below held (Err f) others many place fault below e =
    let same : ◌≡◌ {A = ℕ × TableFault} (0, f) (place, fault) = cc in
    let here = ap (λ (p : ℕ × TableFault). p.0) same in omega (arith, here)
refused_below held (Ok contents) (Ok tables) many place fault below e = cc
refused_below held (Ok contents) (Err refused) many place fault below e =
    let same : ◌≡◌ {A = ℕ × TableFault} (suc refused.0, refused.1) (place, fault) = cc in
    let here = ap (λ (p : ℕ × TableFault). p.0) same in
    let first = below refused.0 refused.1 refl in omega (arith, here, first)

pub unopened_below : (helds : List (Option (List ℕ))) (place : ℕ) (fault : TableFault)
    → opened_all helds ≡ Err (place, fault) → place < length helds
unfolding opened_all
unopened_below [] place fault e = cc
unopened_below (held ∷ helds) place fault e =
    refused_below held (opened_own held) (opened_all helds) (length helds) place fault
    (λ at f h. unopened_below helds at f h) e

pub loads_all : (names : List (List ℕ)) (backs : List BackTable) (old new : StoreTold)
    → AllFound Opens names backs old new 0 0 → LoadsAll names (map link_loaded backs) old new
loads_all names backs old new h = record {
  tables = h.tables;
  may = h.may;
  opens = all_open [] h.tables h.good;
  keeps = h.keeps;
  within = record { asked = h.within.asked; calls = h.within.calls };
}

pub refuses_to_load : (names : List (List ℕ)) (old new : StoreTold) (fault : AtlasFault)
    → NotFound (λ helds. IsOneUnopened helds fault) names old new 0 0
    → RefusesToLoad names old new fault
refuses_to_load names old new fault h = record {
  helds = h.helds;
  may = h.may;
  refuses = h.refuses;
  within = record { asked = h.within.asked; calls = h.within.calls };
}

pub loaded_found : (before : List Back) (name : List ℕ) (given : BackTable) (old new : StoreTold)
    → LoadsOne name old new given → OneFound Opens before name given old new 0 0
loaded_found before name given old new h = record {
  table = record { bytes = h.bytes; contents = contents_of given.table };
  may = h.may;
  good = h.opens;
  keeps = h.keeps;
  text = refl;
  within = record { steps = omega arith; asked = h.within.asked; calls = h.within.calls };
}

pub refused_next : (tables : List TableBytes) (place : ℕ) (fault : TableFault)
    (held : Option (List ℕ)) (rest : List (Option (List ℕ))) → AllGood Opens [] tables
    → length tables ≡ place → Refuses (opened_own held) fault
    → IsOneUnopened (all_held tables ++ (held ∷ rest)) (back_fault place (Refused fault))
refused_next tables place fault held rest good many r =
    by_back (IsOneUnopened (all_held tables ++ (held ∷ rest))) (opened_own held) tt tt place at fault r
  where
    at : (f : TableFault) → opened_own held ≡ Err f
        → opened_all (all_held tables ++ (held ∷ rest)) ≡ Err (place, f)
    at f e =
        subst (λ (n : ℕ). opened_all (all_held tables ++ (held ∷ rest)) ≡ Err (n, f)) many
        (refused_last [] tables held rest f good e)
