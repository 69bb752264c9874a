-- One table more behind the names of a list, over the tables of these.
use Rattle.std.proofs.Common.{◌≡◌, sym, ap, ◌∙◌, ℕ, zero, suc, List, [], ◌∷◌, ◌++◌, length, map, Option}
use Rattle.frz_store.specs.Told.{StoreTold}
use Rattle.frz_backs.specs.Books.{Back}
use Rattle.frz_backs.specs.FileOn.{back_of, loaded_back}
use Rattle.frz_backs.specs.BackTable.{BackTable}
use Rattle.frz_atlas.specs.Behind.{AreJudgedOver, IsRefusedAt, TableBytes}
use Rattle.frz_atlas.specs.Causes.{back_fault}
use Rattle.frz_atlas.specs.Held.{all_held}
use Rattle.frz_atlas.specs.Opening.{IsOneRefused, OpensAll, OpensOver, RefusesAll, RefusesOver}
use Rattle.frz_atlas.specs.declared.fault.AtlasFault.{AtlasFault}
use Rattle.frz_atlas.specs.declared.fault.AtlasFault.TheVariants as atlas
use Rattle.frz_atlas.specs.declared.fault.BackFault.{BackFault}
use Rattle.frz_atlas.proofs.Behind.{IsJudged, judged_found, opens_all, refused_next, refuses_all}
use Rattle.frz_atlas.proofs.Several.{AllFound, AllGood, backs_found, many_found, may_hold_both, may_hold_some, none_more, one_more, some_helds, within_all}

-- one of these is refused, and so is one of these and more
refused_of_more : (before : List Back) (helds rest : List (Option (List ℕ))) (place : ℕ)
    (fault : BackFault) → IsRefusedAt before helds place fault
    → IsRefusedAt before (helds ++ rest) place fault
unfolding IsRefusedAt
refused_of_more before [] rest place fault h = absurd h
refused_of_more before (held ∷ helds) rest zero fault h = h
refused_of_more before (held ∷ helds) rest (suc place) fault h = (
  h.0,
  h.1,
  h.2,
  refused_of_more (before ++ (back_of h.0.contents h.0.bytes ∷ [])) helds rest place fault h.3,
)

fault_of_more : (helds rest : List (Option (List ℕ))) (fault : AtlasFault)
    → IsOneRefused helds fault → IsOneRefused (helds ++ rest) fault
fault_of_more helds rest (atlas.Back place f) r = refused_of_more [] helds rest place f r
fault_of_more helds rest atlas.Failed r = tt
fault_of_more helds rest atlas.NoMemory r = tt
fault_of_more helds rest (atlas.Rules f) r = absurd r
fault_of_more helds rest (atlas.Table f) r = absurd r

pub refused_among : (names more : List (List ℕ)) (old new : StoreTold)
    (steps_before steps_now : ℕ) (fault : AtlasFault)
    → RefusesAll names old new steps_before steps_now fault
    → RefusesAll (names ++ more) old new steps_before steps_now fault
refused_among names more old new steps_before steps_now fault h =
    let rest = some_helds old.files more in
    record {
      helds = h.helds ++ rest;
      may = may_hold_both old.files names more h.helds rest h.may (may_hold_some old.files more);
      refuses = fault_of_more h.helds rest fault h.refuses;
      within = within_all h.helds rest old new steps_before steps_now h.within;
    }

each_judged : (before : List Back) (tables : List TableBytes) → AreJudgedOver before tables
    → AllGood IsJudged before tables
unfolding AllGood AreJudgedOver
each_judged before [] h = tt
each_judged before (t ∷ tables) h =
    ((h.0, h.1), each_judged (before ++ (back_of t.contents t.bytes ∷ [])) tables h.2)

module _ (names : List (List ℕ)) (last : List ℕ) (items slice : List BackTable)
    (old mid new : StoreTold) (steps_before steps_between steps_now : ℕ) (sliced : slice ≡ items)
    (h : OpensAll names items old mid steps_before steps_between)
    (same : mid.files ≡ old.files) where
  found : AllFound IsJudged names items old mid steps_before steps_between
  found = record {
    tables = h.tables;
    may = h.may;
    good = each_judged [] h.tables h.exact;
    keeps = h.keeps;
    texts = h.texts;
    within = h.within;
  }

  all_found : (given : BackTable)
      → OpensOver (map loaded_back slice) last given mid new steps_between steps_now
      → AllFound IsJudged (names ++ (last ∷ [])) (items ++ (given ∷ [])) old new steps_before
      steps_now
  all_found given k =
      one_more IsJudged names items old mid new steps_before steps_between steps_now last found same
      given
      (judged_found (map loaded_back items) (map loaded_back slice) last given mid new steps_between
      steps_now (ap (map loaded_back) sliced) k)

  pub last_open : (given : BackTable)
      → OpensOver (map loaded_back slice) last given mid new steps_between steps_now
      → OpensAll (names ++ (last ∷ [])) (items ++ (given ∷ [])) old new steps_before steps_now
  last_open given k =
      opens_all (names ++ (last ∷ [])) (items ++ (given ∷ [])) old new steps_before steps_now
      (all_found given k)

  pub last_refused : (place : ℕ) (fault : BackFault) → place ≡ length items
      → RefusesOver (map loaded_back slice) last mid new steps_between steps_now fault
      → RefusesAll (names ++ (last ∷ [])) old new steps_before steps_now (back_fault place fault)
  last_refused place fault many k =
      refuses_all (names ++ (last ∷ [])) old new steps_before steps_now (back_fault place fault)
      (none_more IsJudged names items old mid new steps_before steps_between steps_now last found same
      (λ helds. IsOneRefused helds (back_fault place fault)) [] k.held k.may k.within
      (λ rest. refused_next found.tables place (map loaded_back slice) fault k.held rest found.good
      (many_found items found.tables place found.keeps (sym many))
      (ap (map loaded_back) sliced ∙ backs_found items found.tables found.keeps) k.refuses))

  pub last_wanted : (given : BackTable)
      → OpensOver (map loaded_back slice) last given mid new steps_between steps_now
      → RefusesAll (names ++ (last ∷ [])) old new steps_before steps_now atlas.NoMemory
  last_wanted given k =
      let all = all_found given k in
      record { helds = all_held all.tables; may = all.may; refuses = tt; within = all.within }
