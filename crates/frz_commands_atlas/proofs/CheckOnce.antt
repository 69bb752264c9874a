-- That `check` has an answer, and only one.
use Rattle.std.proofs.Common.{◌≡◌, refl, sym, ap, subst, ◌∙◌, ℕ, List, [], Option, Some, None, Result, Ok, Err}
use Rattle.std.specs.Prelude.{map}
use Rattle.frz_game.proofs.Lemmas.{table_exact}
use Rattle.frz_sets.specs.Sets.{size_of}
use Rattle.frz_store.specs.Files.{Files}
use Rattle.frz_table.specs.declared.fault.TableFault.{TableFault}
use Rattle.frz_table.specs.declared.fault.TableFault.TheVariants as table_faults
use Rattle.frz_table.specs.Opening.{Contents, opened, own_format}
use Rattle.frz_table.proofs.Lemmas.{opened_missing}
use Rattle.frz_check.specs.declared.verdict.Verdict.{Verdict}
use Rattle.frz_check.specs.declared.verdict.Verdict.TheVariants as verdicts
use Rattle.frz_check.specs.Kept.{kept_codes}
use Rattle.frz_check.specs.Verdicts.{IsVerdict}
use Rattle.frz_check.proofs.Lemmas.{many_codes, one_verdict, verdict_there}
use Rattle.frz_atlas.specs.Links.{value_over}
use Rattle.frz_answer.specs.Answers.{Answer, says, SomeAnswer}
use Rattle.frz_answer.specs.Lawful.{HasOneAnswer}
use Rattle.frz_prelude.specs.Refusals.{table_status}
use Rattle.frz_prelude.specs.TableCauses.{table_line}
use Rattle.frz_prelude.specs.declared.refused.Refused.TheVariants as refusals
use Rattle.frz_prelude.proofs.Lemmas.{refusal_said}
use Rattle.frz_atlas.specs.Behind.{TableBytes, backs_in, leans}
use Rattle.frz_atlas.specs.Checking.{sizes_in}
use Rattle.frz_atlas.specs.declared.fault.BackFault.{BackFault}
use Rattle.frz_atlas_prelude.specs.BackLines.{back_line, back_status}
use Rattle.frz_atlas_prelude.proofs.Lemmas.{AllFound, all_exact, all_found, back_line_not_empty, never_refused, one_place, one_refused, one_tables, result_is_not_both}
use Rattle.frz_commands_atlas.specs.Checking.{IsCheckedAt, IsJudgedAtlas, judged, no_back, no_table, verdict_line, verdict_status}

-- of one result
same_fault : (x : Result Contents TableFault) (one other : TableFault) → x ≡ Err one
    → x ≡ Err other → one ≡ other
same_fault x one other e f = (let same : ◌≡◌ {A = Result Contents TableFault} (Err one) (Err other) =
    sym e ∙ f in cc)

same_contents : (x : Result Contents TableFault) (one other : Contents) → x ≡ Ok one
    → x ≡ Ok other → one ≡ other
same_contents x one other e f =
    (let same : ◌≡◌ {A = Result Contents TableFault} (Ok one) (Ok other) = sym e ∙ f in cc)

module _ (table : List ℕ) (behind : List (List ℕ)) (m : Files) where
  abbrev opening : Result Contents TableFault
  opening = opened own_format (m table)

  abbrev helds : List (Option (List ℕ))
  helds = map m behind

  -- there is an answer
  by_behind : (contents : Contents) (bytes : List ℕ) → m table ≡ Some bytes
      → opened own_format (Some bytes) ≡ Ok contents → AllFound [] helds
      → SomeAnswer (λ a. IsCheckedAt table behind m a)
  by_behind contents bytes there opens (one_refused place fault h) = record {
    a = says (back_status fault) (back_line place fault) m;
    answer = no_back (record {
      opens = (contents, ap (opened own_format) there ∙ opens);
      place = place;
      fault = fault;
      refused = h;
      told = refl;
    });
    text = back_line_not_empty place fault;
  }
  by_behind contents bytes there opens (all_exact tables are h) =
      let value = value_over (leans bytes) contents.rules (backs_in tables) in
      let v = verdict_there contents.rules value (kept_codes contents bytes)
      (many_codes contents bytes) in
      record {
        a = says (verdict_status v.0)
            (verdict_line (size_of contents.rules.groups) (sizes_in tables) v.0) m;
        answer = judged v.0
            (record {
              bytes = bytes;
              there = there;
              contents = contents;
              opens = opens;
              tables = tables;
              behind_it = record { there = are; exact = h };
              judged = v.1;
            }) refl;
        text = verdict_said v.0 (size_of contents.rules.groups) (sizes_in tables);
      }
    where
      verdict_said : (v : Verdict) (size : ℕ) (sizes : List ℕ) → verdict_line size sizes v ≡ [] → ⊥
      verdict_said verdicts.Exact size sizes = λ e. cc
      verdict_said (verdicts.Wrong wrong) size sizes = λ e. cc

  by_opening : (x : Result Contents TableFault) → opening ≡ x
      → SomeAnswer (λ a. IsCheckedAt table behind m a)
  by_opening (Err fault) e = record {
    a = says (table_status fault) (table_line fault) m;
    answer = no_table (record { fault = fault; refused = e; told = refl });
    text = refusal_said (refusals.Table fault);
  }
  by_opening (Ok contents) e = by_held (m table) refl contents e
    where
      by_held : (held : Option (List ℕ)) → m table ≡ held → (contents : Contents)
          → opening ≡ Ok contents → SomeAnswer (λ a. IsCheckedAt table behind m a)
      by_held None there contents e =
          absurd (result_is_not_both (opened own_format None) contents
          table_faults.Missing
          (ap (opened own_format) (sym there) ∙ e) (opened_missing own_format))
      by_held (Some bytes) there contents e =
          by_behind contents bytes there (ap (opened own_format) (sym there) ∙ e)
          (all_found [] helds)

  pub some_check : SomeAnswer (λ a. IsCheckedAt table behind m a)
  some_check = by_opening opening refl

  -- and only one
  pub opens_judged : (v : Verdict) → (h : IsJudgedAtlas (m table) helds v) → opening ≡ Ok h.contents
  opens_judged v h = ap (opened own_format) h.there ∙ h.opens

  module _ (v w : Verdict) (h : IsJudgedAtlas (m table) helds v)
      (k : IsJudgedAtlas (m table) helds w) where
    same_bytes : k.bytes ≡ h.bytes
    same_bytes = (let e : Some k.bytes ≡ Some h.bytes = sym k.there ∙ h.there in cc)

    one_contents : k.contents ≡ h.contents
    one_contents = same_contents opening k.contents h.contents (opens_judged w k) (opens_judged v h)

    same_tables : k.tables ≡ h.tables
    same_tables = one_tables [] helds h.tables k.tables h.behind_it.there k.behind_it.there
        h.behind_it.exact k.behind_it.exact

    pub same_verdict : w ≡ v
    same_verdict =
        let rules = h.contents.rules in
        let value = value_over (leans h.bytes) rules (backs_in h.tables) in
        let moved : IsVerdict rules value (kept_codes h.contents h.bytes) w =
        subst (λ (l : List TableBytes). IsVerdict rules (value_over (leans h.bytes) rules (backs_in l))
        (kept_codes h.contents h.bytes) w) same_tables
        (subst (λ (c : Contents). IsVerdict c.rules
        (value_over (leans h.bytes) c.rules (backs_in k.tables)) (kept_codes c h.bytes) w) one_contents
        (subst (λ (l : List ℕ). IsVerdict k.contents.rules
        (value_over (leans l) k.contents.rules (backs_in k.tables)) (kept_codes k.contents l) w)
        same_bytes k.judged)) in
        one_verdict rules value (table_exact rules value) (kept_codes h.contents h.bytes) w v moved
        h.judged

  one_check : (a b : Answer) → IsCheckedAt table behind m a → IsCheckedAt table behind m b → b ≡ a
  one_check a b (no_table h) (no_table k) =
      k.told ∙ ap (λ (f : TableFault). says (table_status f) (table_line f) m)
      (same_fault opening k.fault h.fault k.refused h.refused) ∙ sym h.told
  one_check a b (no_table h) (no_back k) =
      absurd (result_is_not_both opening k.opens.0 h.fault k.opens.1 h.refused)
  one_check a b (no_table h) (judged w k e) =
      absurd (result_is_not_both opening k.contents h.fault (opens_judged w k) h.refused)
  one_check a b (no_back h) (no_table k) =
      absurd (result_is_not_both opening h.opens.0 k.fault h.opens.1 k.refused)
  one_check a b (no_back h) (no_back k) =
      let same = one_place [] helds k.place h.place k.fault h.fault k.refused h.refused in
      k.told ∙ ap (λ (n : ℕ). says (back_status k.fault) (back_line n k.fault) m) same.0
      ∙ ap (λ (f : BackFault). says (back_status f) (back_line h.place f) m) same.1 ∙ sym h.told
  one_check a b (no_back h) (judged w k e) =
      absurd (never_refused [] helds k.tables h.place h.fault k.behind_it.there k.behind_it.exact
      h.refused)
  one_check a b (judged v h e) (no_table k) =
      absurd (result_is_not_both opening h.contents k.fault (opens_judged v h) k.refused)
  one_check a b (judged v h e) (no_back k) =
      absurd (never_refused [] helds h.tables k.place k.fault h.behind_it.there h.behind_it.exact
      k.refused)
  one_check a b (judged v h e) (judged w k f) =
      f ∙ ap (λ (x : Verdict). says (verdict_status x)
      (verdict_line (size_of k.contents.rules.groups) (sizes_in k.tables) x) m)
      (same_verdict v w h k)
      ∙ ap (λ (c : Contents). says (verdict_status v)
      (verdict_line (size_of c.rules.groups) (sizes_in k.tables) v) m) (one_contents v w h k)
      ∙ ap (λ (l : List TableBytes). says (verdict_status v)
      (verdict_line (size_of h.contents.rules.groups) (sizes_in l) v) m) (same_tables v w h k)
      ∙ sym e

  pub one_checked : HasOneAnswer (λ a. IsCheckedAt table behind m a)
  one_checked = (some_check.a, some_check.answer, λ b h. one_check some_check.a b some_check.answer h)
