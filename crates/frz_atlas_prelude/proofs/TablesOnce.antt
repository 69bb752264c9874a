-- What the names behind another hold: tables that are exact, each over those before it, or a first one
-- that is refused; and only one of them.
use Rattle.std.proofs.Common.{◌≡◌, refl, sym, ap, subst, ◌∙◌, ℕ, zero, suc, List, [], ◌∷◌, ◌++◌, Option, Some, None, Result, Ok, Err}
use Rattle.frz_game.proofs.Lemmas.{plies_few, table_exact}
use Rattle.frz_rules.specs.Text.{rules_of}
use Rattle.frz_rules.proofs.Lemmas.{text_sound}
use Rattle.frz_table.specs.declared.fault.TableFault.{TableFault}
use Rattle.frz_table.specs.declared.fault.TableFault.TheVariants.{Missing}
use Rattle.frz_table.specs.Opening.{Contents, opened, own_format}
use Rattle.frz_table.proofs.Lemmas.{belongs, opened_missing}
use Rattle.frz_atlas.specs.Verdict.{Verdict}
use Rattle.frz_atlas.specs.Verdict.TheVariants as verdicts
use Rattle.frz_atlas.specs.Kept.{kept_codes}
use Rattle.frz_atlas.specs.Verdicts.{IsVerdict}
use Rattle.frz_atlas.proofs.Lemmas.{many_codes, one_verdict, verdict_on, verdict_there}
use Rattle.frz_atlas.specs.Books.{Back}
use Rattle.frz_atlas.specs.FileOn.{back_of}
use Rattle.frz_atlas.specs.Links.{value_over}
use Rattle.frz_atlas.proofs.Lemmas.{of_own, over_small}
use Rattle.frz_atlas.specs.Behind.{IsJudgedOver, IsRefusedAt, IsRefusedOver, TableBytes, kind_of, leans}
use Rattle.frz_atlas.specs.Held.{all_held}
use Rattle.frz_atlas.specs.declared.fault.BackFault.{BackFault}
use Rattle.frz_atlas.specs.declared.fault.BackFault.TheVariants.{Refused, Wrong}
use Rattle.frz_atlas_prelude.specs.Tables.{AreExactOver}

-- the verdict on bytes that open over these tables
judged_so : (before : List Back) (table : TableBytes) (v : Verdict)
    → opened own_format (Some table.bytes) ≡ Ok table.contents
    → IsVerdict table.contents.rules (value_over (leans table.bytes) table.contents.rules before)
    (kept_codes table.contents table.bytes) v
    → IsJudgedOver before table v
judged_so before table v opens h =
    let contents = table.contents in
    let kind = kind_of table.bytes in
    let value = value_over (leans table.bytes) contents.rules before in
    let read : rules_of contents.text ≡ Ok contents.rules =
    (belongs own_format table.bytes contents opens).read in
    record {
      opens = opens;
      codes = h;
      told = λ are. verdict_on kind value contents table.bytes v are (table_exact contents.rules value)
          (plies_few contents.rules value (over_small (leans table.bytes) contents.rules before
          (text_sound contents.text contents.rules read))) read
          (of_own table.bytes contents opens) h;
    }

-- what one name holds, over these tables
pub data OneFound (before : List Back) (held : Option (List ℕ)) : Type 0 where
  refused : (fault : BackFault) → IsRefusedOver before held fault → OneFound before held
  exact : (table : TableBytes) → held ≡ Some table.bytes
      → IsJudgedOver before table verdicts.Exact → OneFound before held

by_verdict : (before : List Back) (held : Option (List ℕ)) (table : TableBytes)
    → held ≡ Some table.bytes → (v : Verdict) → IsJudgedOver before table v → OneFound before held
by_verdict before held table there verdicts.Exact h = exact table there h
by_verdict before held table there (verdicts.Wrong wrong) h =
    refused (Wrong wrong) (record { table = table; there = there; judged = h })

by_opening : (before : List Back) (bytes : List ℕ) (x : Result Contents TableFault)
    → opened own_format (Some bytes) ≡ x → OneFound before (Some bytes)
by_opening before bytes (Err fault) e = refused (Refused fault) e
by_opening before bytes (Ok contents) e =
    let table : TableBytes = record { bytes = bytes; contents = contents } in
    let v = verdict_there contents.rules (value_over (leans bytes) contents.rules before)
    (kept_codes contents bytes) (many_codes contents bytes) in
    by_verdict before (Some bytes) table refl v.0 (judged_so before table v.0 e v.1)

one_found : (before : List Back) (held : Option (List ℕ)) → OneFound before held
one_found before None = refused (Refused Missing) (opened_missing own_format)
one_found before (Some bytes) =
    by_opening before bytes (opened own_format (Some bytes)) refl

-- bytes have one verdict over these tables
module _ (before : List Back) (held : Option (List ℕ)) (one other : TableBytes) (v w : Verdict)
    (there : held ≡ Some one.bytes) (other_there : held ≡ Some other.bytes)
    (h : IsJudgedOver before one v) (k : IsJudgedOver before other w) where
  same_bytes : other.bytes ≡ one.bytes
  same_bytes = let e : Some other.bytes ≡ Some one.bytes = sym other_there ∙ there in cc

  same_contents : other.contents ≡ one.contents
  same_contents =
      let e : ◌≡◌ {A = Result Contents TableFault} (Ok other.contents) (Ok one.contents) =
      sym k.opens ∙ ap (λ (l : List ℕ). opened own_format (Some l)) same_bytes
      ∙ h.opens in cc

  same_table : other ≡ one
  same_table = ap (λ (l : List ℕ). record { bytes = l; contents = other.contents }) same_bytes
      ∙ ap (λ (c : Contents). record { bytes = one.bytes; contents = c }) same_contents

  same_verdict : v ≡ w
  same_verdict =
      let moved : IsJudgedOver before one w =
      subst (λ (t : TableBytes). IsJudgedOver before t w) same_table k in
      let rules = one.contents.rules in
      let value = value_over (leans one.bytes) rules before in
      one_verdict rules value (table_exact rules value) (kept_codes one.contents one.bytes) v w
      h.codes moved.codes

-- a name that holds an exact table is not refused, and has one refusal
module _ (before : List Back) (held : Option (List ℕ)) where
  opens_held : (table : TableBytes) (v : Verdict) → held ≡ Some table.bytes
      → IsJudgedOver before table v → opened own_format held ≡ Ok table.contents
  opens_held table v there h =
      ap (λ (x : Option (List ℕ)). opened own_format x) there ∙ h.opens

  never_open : (table : TableBytes) (v : Verdict) (fault : TableFault) → held ≡ Some table.bytes
      → IsJudgedOver before table v → opened own_format held ≡ Err fault → ⊥
  never_open table v fault there h e =
      let no : ◌≡◌ {A = Result Contents TableFault} (Ok table.contents) (Err fault) =
      sym (opens_held table v there h) ∙ e in cc

  never_both : (table : TableBytes) (fault : BackFault) → held ≡ Some table.bytes
      → IsJudgedOver before table verdicts.Exact → IsRefusedOver before held fault → ⊥
  never_both table (Refused fault) there h e = never_open table verdicts.Exact fault there h e
  never_both table (Wrong wrong) there h k =
      let e : verdicts.Exact ≡ verdicts.Wrong wrong =
      same_verdict before held table k.table verdicts.Exact (verdicts.Wrong wrong) there k.there h
      k.judged in cc

  one_fault : (fault other : BackFault) → IsRefusedOver before held fault
      → IsRefusedOver before held other → fault ≡ other
  one_fault (Refused fault) (Refused other) e f =
      let same : ◌≡◌ {A = Result Contents TableFault} (Err fault) (Err other) = sym e ∙ f in cc
  one_fault (Refused fault) (Wrong wrong) e k =
      absurd (never_open k.table (verdicts.Wrong wrong) fault k.there k.judged e)
  one_fault (Wrong wrong) (Refused fault) k e =
      absurd (never_open k.table (verdicts.Wrong wrong) fault k.there k.judged e)
  one_fault (Wrong wrong) (Wrong other) h k =
      let e : verdicts.Wrong wrong ≡ verdicts.Wrong other =
      same_verdict before held h.table k.table (verdicts.Wrong wrong) (verdicts.Wrong other) h.there
      k.there h.judged k.judged in cc

-- the tables before, with one more behind them
abbrev pub with_table : List Back → TableBytes → List Back
with_table before table = before ++ (back_of table.contents table.bytes ∷ [])

-- what all names hold
pub data AllFound (before : List Back) (helds : List (Option (List ℕ))) : Type 0 where
  one_refused : (place : ℕ) (fault : BackFault) → IsRefusedAt before helds place fault
      → AllFound before helds
  all_exact : (tables : List TableBytes) → helds ≡ all_held tables → AreExactOver before tables
      → AllFound before helds

found_behind : (before : List Back) (held : Option (List ℕ)) (more : List (Option (List ℕ)))
    (table : TableBytes) → held ≡ Some table.bytes → IsJudgedOver before table verdicts.Exact
    → AllFound (with_table before table) more → AllFound before (held ∷ more)
unfolding AreExactOver IsRefusedAt
found_behind before held more table there h (one_refused place fault k) =
    one_refused (suc place) fault (table, there, h, k)
found_behind before held more table there h (all_exact tables are k) =
    all_exact (table ∷ tables)
    (ap (λ (x : Option (List ℕ)). x ∷ more) there
    ∙ ap (λ (l : List (Option (List ℕ))). Some table.bytes ∷ l) are) (h, k)

pub all_found : (before : List Back) (helds : List (Option (List ℕ))) → AllFound before helds
unfolding AreExactOver IsRefusedAt
all_found before [] = all_exact [] refl tt
all_found before (held ∷ more) =
    elim (one_found before held) [
      | refused fault e ↦ one_refused 0 fault e
      | exact table there h ↦ found_behind before held more table there h
          (all_found (with_table before table) more)
    ]

-- where all are exact, none is refused
pub never_refused : (before : List Back) (helds : List (Option (List ℕ))) (tables : List TableBytes)
    (place : ℕ) (fault : BackFault) → helds ≡ all_held tables → AreExactOver before tables
    → IsRefusedAt before helds place fault → ⊥
unfolding AreExactOver IsRefusedAt
never_refused before [] tables place fault are h k = absurd k
never_refused before (held ∷ more) [] place fault are h k = cc
never_refused before (held ∷ more) (table ∷ tables) zero fault are h k =
    let there : held ≡ Some table.bytes = cc in never_both before held table fault there h.0 k
never_refused before (held ∷ more) (table ∷ tables) (suc place) fault are h
    (other, other_there, judged, k) =
    let there : held ≡ Some table.bytes = cc in
    let rest : more ≡ all_held tables = cc in
    let same : other ≡ table = same_table before held table other verdicts.Exact verdicts.Exact there
    other_there h.0 judged in
    never_refused (with_table before table) more tables place fault rest h.1
    (subst (λ (t : TableBytes). IsRefusedAt (with_table before t) more place fault) same k)

-- one place is refused, with one fault
pub one_place : (before : List Back) (helds : List (Option (List ℕ))) (place other : ℕ)
    (fault more : BackFault) → IsRefusedAt before helds place fault
    → IsRefusedAt before helds other more → (place ≡ other) × (fault ≡ more)
unfolding IsRefusedAt
one_place before [] place other fault more h k = absurd h
one_place before (held ∷ helds) zero zero fault more h k =
    (refl, one_fault before held fault more h k)
one_place before (held ∷ helds) zero (suc other) fault more h (table, there, judged, k) =
    absurd (never_both before held table fault there judged h)
one_place before (held ∷ helds) (suc place) zero fault more (table, there, judged, h) k =
    absurd (never_both before held table more there judged k)
one_place before (held ∷ helds) (suc place) (suc other) fault more (table, there, judged, h)
    (second, also, again, k) =
    let same : second ≡ table = same_table before held table second verdicts.Exact verdicts.Exact
    there also judged again in
    let rest = one_place (with_table before table) helds place other fault more h
    (subst (λ (t : TableBytes). IsRefusedAt (with_table before t) helds other more) same k) in
    (ap suc rest.0, rest.1)

-- the tables are the same
pub one_tables : (before : List Back) (helds : List (Option (List ℕ)))
    (tables others : List TableBytes) → helds ≡ all_held tables → helds ≡ all_held others
    → AreExactOver before tables → AreExactOver before others → others ≡ tables
unfolding AreExactOver
one_tables before [] [] [] are also h k = refl
one_tables before [] [] (other ∷ others) are also h k = cc
one_tables before [] (table ∷ tables) others are also h k = cc
one_tables before (held ∷ helds) [] others are also h k = cc
one_tables before (held ∷ helds) (table ∷ tables) [] are also h k = cc
one_tables before (held ∷ helds) (table ∷ tables) (other ∷ others) are also h k =
    let there : held ≡ Some table.bytes = cc in
    let other_there : held ≡ Some other.bytes = cc in
    let rest : helds ≡ all_held tables = cc in
    let other_rest : helds ≡ all_held others = cc in
    let same : other ≡ table = same_table before held table other verdicts.Exact verdicts.Exact there
    other_there h.0 k.0 in
    let more : others ≡ tables = one_tables (with_table before table) helds tables others rest
    other_rest h.1 (subst (λ (t : TableBytes). AreExactOver (with_table before t) others) same k.1) in
    ap (λ (t : TableBytes). t ∷ others) same ∙ ap (λ (l : List TableBytes). table ∷ l) more
