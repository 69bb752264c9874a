-- What the answers of `report` mean, and that it has one answer.
use Rattle.std.proofs.Common.{◌≡◌, refl, sym, ap, subst, ◌∙◌, ℕ, Bool, true, false, List, [], Option, Some, None, Result, Ok, Err}
use Rattle.std.specs.Prelude.{map}
use Rattle.std.specs.Option.{unwrap_or}
use Rattle.frz_game.specs.Values.{AreTrueExits}
use Rattle.frz_store.specs.Files.{Files}
use Rattle.frz_table.specs.declared.fault.TableFault.{TableFault}
use Rattle.frz_table.specs.declared.fault.TableFault.TheVariants as table_faults
use Rattle.frz_table.specs.Opening.{Contents, opened, own_format}
use Rattle.frz_table.proofs.Lemmas.{opened_missing}
use Rattle.frz_check.specs.Kept.{kept_codes}
use Rattle.frz_check.proofs.Lemmas.{bound_kept}
use Rattle.frz_atlas.specs.Books.{Back}
use Rattle.frz_atlas.specs.Links.{AreTrueLines, own_over, value_over}
use Rattle.frz_atlas.specs.Values.{atlas_value, own_value}
use Rattle.frz_atlas.proofs.Lemmas.{exits_over_true}
use Rattle.frz_atlas.specs.Behind.{AreJudged, TableBytes, backs_in, leans, link_of}
use Rattle.frz_atlas.specs.Loading.{opened_all}
use Rattle.frz_atlas.specs.declared.fault.BackFault.TheVariants.{Refused}
use Rattle.frz_atlas.proofs.Lemmas.{judged_exact, links_backs}
use Rattle.frz_report.proofs.Lemmas.{report_said}
use Rattle.frz_answer.specs.declared.status.Status.{Status}
use Rattle.frz_answer.specs.Answers.{Answer, SomeAnswer, says}
use Rattle.frz_answer.specs.Lawful.{IsLawful}
use Rattle.frz_answer.specs.Words.{unless}
use Rattle.frz_answer.proofs.Lemmas.{one_answer, taking_lawful, unless_lawful}
use Rattle.frz_prelude.specs.declared.refused.Refused.TheVariants as refusals
use Rattle.frz_prelude.proofs.Lemmas.{by_table_status, refusal_said}
use Rattle.frz_atlas_prelude.specs.Names.{file_names_of, has_twice}
use Rattle.frz_atlas_prelude.specs.TableRefusals.{of_back, of_table}
use Rattle.frz_atlas_prelude.proofs.Lemmas.{back_line_not_empty, result_is_not_both}
use Rattle.frz_report.specs.Exits.{positions_of}
use Rattle.frz_commands_atlas.specs.FirstExits.{firsts_text, listed, rarity}
use Rattle.frz_commands_atlas.specs.InOrder.{in_order}
use Rattle.frz_commands_atlas.proofs.OneOrder.{in_order_is_ranked}
use Rattle.frz_commands_atlas.specs.Reporting.{MeansReport, MeansStatus, report_at, report_behind, report_by, report_words, reporting_at, value_behind}

abbrev Opened : Type 0
Opened = Result (List TableBytes) (ℕ × TableFault)

-- the text of an answer is not empty
some_report : (x : Result Contents TableFault) (bytes : List ℕ) (behind : Opened) (files : Files)
    → (report_by x bytes behind files).text ≡ [] → ⊥
some_report (Ok contents) bytes (Ok tables) files =
    report_said (firsts_text contents.rules (value_behind contents bytes tables)) contents.rules
    (value_behind contents bytes tables) (kept_codes contents bytes)
some_report (Ok contents) bytes (Err refused) files = back_line_not_empty refused.0
    (Refused refused.1)
some_report (Err fault) bytes behind files = refusal_said (refusals.Table fault)

module _ (table : List ℕ) (behind : List (List ℕ)) (files : Files) where
  pub some_at : SomeAnswer (λ a. a ≡ report_at table behind files)
  some_at = record {
    a = report_at table behind files;
    answer = refl;
    text = some_report (opened own_format (files table)) (unwrap_or (files table) [])
        (opened_all (map files behind)) files;
  }

  -- where the lines of all texts are true, so are the exits over exact tables
  exits_true : (contents : Contents) (bytes : List ℕ) (tables : List TableBytes) → AreJudged tables
      → AreTrueExits contents.rules (own_over (leans bytes) contents.rules (backs_in tables))
      → AreTrueLines (map link_of tables)
      → AreTrueExits contents.rules (value_behind contents bytes tables)
  exits_true contents bytes tables judged own lines = by_kind (leans bytes) own
    where
      by_kind : (b : Bool) → AreTrueExits contents.rules (own_over b contents.rules (backs_in tables))
          → AreTrueExits contents.rules (value_over b contents.rules (backs_in tables))
      by_kind false own = own
      by_kind true own =
          subst (λ (backs : List Back). AreTrueExits contents.rules (atlas_value contents.rules backs))
          (links_backs tables)
          (exits_over_true contents.rules (map link_of tables) (judged_exact tables judged) lines
          (subst (λ (backs : List Back). AreTrueExits contents.rules (own_value contents.rules backs))
          (sym (links_backs tables)) own))

  module _ (a : Answer) where
    means_so : (status : Status) (text : List ℕ) → a ≡ says status text files
        → MeansStatus table behind files a status → MeansReport table behind files a
    means_so status text e says = record {
      same = ap (λ (x : Answer). x.files) e;
      untaken = ap (λ (x : Answer). x.taken) e;
      says = subst (λ (s : Status). MeansStatus table behind files a s)
          (sym (ap (λ (x : Answer). x.status) e)) says;
    }

    by_behind : (bytes : List ℕ) (contents : Contents) → files table ≡ Some bytes
        → opened own_format (Some bytes) ≡ Ok contents → (x : Opened)
        → opened_all (map files behind) ≡ x → a ≡ report_behind contents bytes x files
        → MeansReport table behind files a
    by_behind bytes contents there opens (Ok tables) are told =
        means_so _ _ told (record {
          bytes = bytes;
          contents = contents;
          open_file = record { there = there; opens = opens };
          tables = tables;
          all_open = are;
          rows = in_order rarity (listed (positions_of contents.rules
              (value_behind contents bytes tables)));
          ranked = in_order_is_ranked rarity (listed (positions_of contents.rules
              (value_behind contents bytes tables)));
          told = ap (λ (x : Answer). x.text) told;
          where_exact = λ kept side p inside.
              bound_kept (value_behind contents bytes tables) contents bytes kept side p inside;
          true_exits = exits_true contents bytes tables;
        })
    by_behind bytes contents there opens (Err refused) are told =
        let refuses = of_back (record {
          opens = (contents, ap (opened own_format) there ∙ opens);
          place = refused.0;
          fault = refused.1;
          refused = are;
          told = told;
        }) in
        means_so _ _ told (by_table_status (λ s. MeansStatus table behind files a s) refused.1
        refuses refuses)

    by_held : (held : Option (List ℕ)) → files table ≡ held → (contents : Contents)
        → opened own_format held ≡ Ok contents
        → a ≡ report_behind contents (unwrap_or held []) (opened_all (map files behind)) files
        → MeansReport table behind files a
    by_held None there contents opens told =
        absurd (result_is_not_both _ contents table_faults.Missing opens
        (opened_missing own_format))
    by_held (Some bytes) there contents opens told =
        by_behind bytes contents there opens (opened_all (map files behind)) refl told

    by_opening : (x : Result Contents TableFault)
        → opened own_format (files table) ≡ x
        → a ≡ report_by x (unwrap_or (files table) []) (opened_all (map files behind)) files
        → MeansReport table behind files a
    by_opening (Ok contents) opens told = by_held (files table) refl contents opens told
    by_opening (Err fault) opens told =
        let refuses = of_table (record { fault = fault; refused = opens; told = told }) in
        means_so _ _ told (by_table_status (λ s. MeansStatus table behind files a s) fault refuses
        refuses)

    report_means : a ≡ report_at table behind files → MeansReport table behind files a
    report_means told = by_opening (opened own_format (files table)) refl told

reporting_lawful : (table : List ℕ) (behind : List (List ℕ))
    → IsLawful (reporting_at table behind)
reporting_lawful table behind = record {
  one = λ files input. one_answer (report_at table behind files);
  means = λ files input a are h. report_means table behind files a h;
}

pub report_lawful : (words : List (List ℕ)) → IsLawful (report_words words)
report_lawful words =
    taking_lawful
    (λ (names : List ℕ × List (List ℕ)). unless (has_twice words) (reporting_at names.0 names.1))
    (file_names_of words)
    (λ names. unless_lawful (has_twice words) (reporting_at names.0 names.1)
    (reporting_lawful names.0 names.1))
