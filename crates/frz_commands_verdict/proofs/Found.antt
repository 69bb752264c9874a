-- What is found by the tables that were opened and checked.
use Rattle.std.proofs.Common.{◌≡◌, ◌+◌, ◌<◌, ◌≤◌, ◌++◌, ◌∷◌, ◌∙◌, [], ℕ, List, All, ap, arith, length, subst, sym, Option, Some}
use Rattle.std.specs.Prelude.{map, sum_by}
use Rattle.std.proofs.lemmas.List.{length-append, length-map, map-append}
use Rattle.frz_board.specs.Boards.{Board}
use Rattle.frz_sets.specs.Sets.{size_of}
use Rattle.frz_store.specs.Told.{StoreTold}
use Rattle.frz_backs.specs.BackTable.{BackTable}
use Rattle.frz_backs.specs.Links.{Link}
use Rattle.frz_backs.specs.Loaded.{link_loaded}
use Rattle.frz_atlas.specs.Behind.{AreJudged, TableBytes, link_of}
use Rattle.frz_atlas.specs.Costs.{WithinAll, steps_of}
use Rattle.frz_atlas.specs.Held.{MayHoldAll, all_held}
use Rattle.frz_atlas.specs.Opening.{OpensAll, RefusesAll}
use Rattle.frz_atlas.specs.declared.fault.AtlasFault.{AtlasFault}
use Rattle.frz_atlas.specs.declared.fault.AtlasFault.TheVariants.{NoMemory}
use Rattle.frz_atlas_prelude.specs.declared.names.TheConstants.{MOST_BACKS}
use Rattle.frz_atlas_prelude.proofs.Lemmas.{as_many_as_names}
use Rattle.frz_commands_premises.specs.declared.line.Line.{Line}
use Rattle.frz_commands_premises.specs.LineTexts.{IsWritable}
use Rattle.frz_commands_premises.specs.PremiseLines.{TextLink, text_link_loaded, text_link_of}
use Rattle.frz_commands_premises.proofs.Lemmas.{link_size, sizes_checked, sizes_loaded, texts_loaded, writable_behind}
use Rattle.frz_commands_verdict.specs.declared.finding.Told.{Told}
use Rattle.frz_commands_verdict.specs.Finding.{FindsVerdict, IsTold, RefusesOne, WithinFinding, names_over}
use Rattle.frz_commands_verdict.proofs.LastTable.{has_last, same_last}

abbrev loaded_size : BackTable → ℕ
loaded_size back = size_of back.table.rules.groups

-- as many tables as names
many_tables : (told : StoreTold) (table : List ℕ) (behind : List (List ℕ)) (tables : List TableBytes)
    → MayHoldAll told.files (names_over table behind) (all_held tables)
    → length tables ≡ length behind + 1
many_tables told table behind tables may =
    let many = as_many_as_names told.files (names_over table behind) (all_held tables) may in
    let helds = length-map tables (λ (t : TableBytes). Some t.bytes) in
    let names = length-append behind (table ∷ []) in
    omega (arith, many, helds, names)

module _ (table : List ℕ) (behind : List (List ℕ)) (p : Board) (old new : StoreTold)
    (before then now : ℕ) where
  within_more : (helds : List (Option (List ℕ))) (numbers : ℕ) → WithinAll helds old new before then
      → numbers ≤ sum_by steps_of helds → now ≤ then + numbers
      → WithinFinding helds old new before now
  within_more helds numbers h few steps = record {
    steps = (let first = h.steps in omega (arith, first, few, steps));
    asked = h.asked;
    calls = h.calls;
  }

  -- one of the tables is refused
  pub refused_first : (fault : AtlasFault)
      → RefusesAll (names_over table behind) old new before then fault → now ≤ then
      → RefusesOne table behind old new before now fault
  refused_first fault h steps = record {
    helds = h.helds;
    may_all = h.may;
    refuses = h.refuses;
    within = within_more h.helds 0 h.within (omega arith) (omega (arith, steps));
  }

  module _ (tables : List BackTable) (h : OpensAll (names_over table behind) tables old new before then)
      (steps : now ≤ then + sum_by loaded_size tables) where
    sizes_sum_to_steps : sum_by loaded_size tables ≡ sum_by steps_of (all_held h.tables)
    sizes_sum_to_steps = sizes_loaded tables ∙ ap (sum_by link_size) h.keeps
        ∙ sizes_checked h.tables h.exact

    within_opened : WithinFinding (all_held h.tables) old new before now
    within_opened =
        within_more (all_held h.tables) _ h.within
        (let same = sizes_sum_to_steps in omega (arith, same)) steps

    some_tables : 0 < length h.tables
    some_tables = let many = many_tables old table behind h.tables h.may in omega (arith, many)

    some_loaded : 0 < length tables
    some_loaded =
        let some = some_tables in
        let same = ap (length {A = Link}) h.keeps in
        let loaded = length-map tables link_loaded in
        let opened = length-map h.tables link_of in
        omega (arith, some, same, loaded, opened)

    -- what is told by the loaded tables is told by those in the files
    pub verdict_is_found : (told : Option Told)
        → ((front : List BackTable) (own : BackTable) → tables ≡ front ++ own ∷ []
        → IsTold (link_loaded own) (map text_link_loaded tables) p told)
        → FindsVerdict table behind p old new before now told
    verdict_is_found told tells =
        let last = has_last h.tables some_tables in
        let loaded = has_last tables some_loaded in
        let links : map link_loaded loaded.0 ++ link_loaded loaded.1 ∷ []
        ≡ map link_of last.0 ++ link_of last.1 ∷ [] =
        sym (map-append link_loaded loaded.0 (loaded.1 ∷ []))
        ∙ ap (map link_loaded) (sym loaded.2) ∙ h.keeps ∙ ap (map link_of) last.2
        ∙ map-append link_of last.0 (last.1 ∷ []) in
        let same = same_last (map link_loaded loaded.0) (map link_of last.0)
        (link_loaded loaded.1) (link_of last.1) links in
        let texts : map text_link_loaded tables ≡ map text_link_of (last.0 ++ last.1 ∷ []) =
        texts_loaded tables h.tables h.keeps h.texts ∙ ap (map text_link_of) last.2 in
        record {
          before = last.0;
          own = last.1;
          may_all = subst (λ (l : List TableBytes). MayHoldAll old.files (names_over table behind)
              (all_held l)) last.2 h.may;
          exact = subst (λ (l : List TableBytes). AreJudged l) last.2 h.exact;
          tells = subst (λ (l : Link). IsTold l (map text_link_of (last.0 ++ last.1 ∷ [])) p told)
              same.1
              (subst (λ (l : List TextLink). IsTold (link_loaded loaded.1) l p told) texts
              (tells loaded.0 loaded.1 loaded.2));
          within = subst (λ (l : List TableBytes). WithinFinding (all_held l) old new before now)
              last.2 within_opened;
        }

    -- memory ran out
    pub memory_wanted : RefusesOne table behind old new before now NoMemory
    memory_wanted = record {
      helds = all_held h.tables;
      may_all = h.may;
      refuses = tt;
      within = within_opened;
    }

-- what the lines tell can be written
pub lines_writable : (table : List ℕ) (behind : List (List ℕ)) (p : Board) (old new : StoreTold)
    (before now : ℕ) (told : Told) → length behind ≤ MOST_BACKS
    → FindsVerdict table behind p old new before now (Some told) → All IsWritable told.lines.items
lines_writable table behind p old new before now told few f =
    let tables = f.before ++ f.own ∷ [] in
    let many = many_tables old table behind tables f.may_all in
    let texts = length-map tables text_link_of in
    subst (λ (l : List Line). All IsWritable l) (sym f.tells.2)
    (writable_behind [] (map text_link_of tables) (omega (arith, few, many, texts)))
