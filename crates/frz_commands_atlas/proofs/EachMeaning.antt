-- What the answers of `each` mean.
use Rattle.std.proofs.Common.{◌≡◌, refl, sym, ap, subst, ◌∙◌, ℕ, List, [], map, Bool, true, false, Option, Some, None, Result, Ok, Err}
use Rattle.std.specs.Option.{unwrap_or}
use Rattle.frz_board.specs.Boards.{Board}
use Rattle.frz_fen.specs.Reading.{fen_of}
use Rattle.frz_index.proofs.Lemmas.{member_of, of_member}
use Rattle.frz_game.specs.Numbers.{is_member}
use Rattle.frz_store.specs.Files.{Files, bytes_at}
use Rattle.frz_table.specs.declared.fault.TableFault.{TableFault}
use Rattle.frz_table.specs.declared.fault.TableFault.TheVariants as table_faults
use Rattle.frz_table.specs.Opening.{Contents, own_format}
use Rattle.frz_table.proofs.Lemmas.{opened_missing}
use Rattle.frz_atlas.specs.Behind.{TableBytes}
use Rattle.frz_atlas.specs.Loading.{opened_all, opened_own}
use Rattle.frz_answer.specs.declared.status.Status.{Status}
use Rattle.frz_answer.specs.declared.status.Status.TheVariants.{Success}
use Rattle.frz_answer.specs.Answers.{Answer, says}
use Rattle.frz_answer.specs.Lawful.{IsLawful}
use Rattle.frz_answer.proofs.Lemmas.{said_job}
use Rattle.frz_prelude.specs.Refusals.{status_of}
use Rattle.frz_prelude.specs.declared.refused.Refused.{Refused}
use Rattle.frz_prelude.specs.declared.refused.Refused.TheVariants.{Outside}
use Rattle.frz_prelude.proofs.Lemmas.{by_table_status, fen_lawful}
use Rattle.frz_atlas_prelude.specs.Given.{GivenNames}
use Rattle.frz_atlas_prelude.specs.TableRefusals.{of_back, of_table}
use Rattle.frz_atlas_prelude.proofs.Lemmas.{given_lawful, result_is_not_both}
use Rattle.frz_commands_atlas.specs.declared.rows.Row.{Row}
use Rattle.frz_commands_atlas.specs.Each.{IsEachAt, IsEachBehind, IsEachBy, answer_by, found_over}
use Rattle.frz_commands_atlas.specs.EachMeans.{MeansEach, MeansEachBy, each_at, each_named, each_words}
use Rattle.frz_commands_atlas.specs.Ranked.{rank_for}
use Rattle.frz_commands_atlas.specs.Reporting.{value_behind}
use Rattle.frz_commands_atlas.proofs.BehindTells.{behind_tells}
use Rattle.frz_commands_atlas.proofs.EachOnce.{ByTest, one_each}
use Rattle.frz_commands_atlas.proofs.MovesBehind.{rows_tell}

abbrev Given : Type 0
Given = Result (List Row) Refused

abbrev Opened : Type 0
Opened = Result (List TableBytes) (ℕ × TableFault)

module _ (table : List ℕ) (behind : List (List ℕ)) (p : Board) (files : Files) (a : Answer) where
  means_so : (status : Status) (text : List ℕ) → a ≡ says status text files
      → MeansEachBy table behind p files a status → MeansEach table behind p files a
  means_so status text e meant = record {
    same = ap (λ (x : Answer). x.files) e;
    untaken = ap (λ (x : Answer). x.taken) e;
    says = subst (λ (s : Status). MeansEachBy table behind p files a s)
        (sym (ap (λ (x : Answer). x.status) e)) meant;
  }

  -- TABLE and the BACKs open
  module _ (bytes : List ℕ) (contents : Contents) (there : files table ≡ Some bytes)
      (opens : opened_own (Some bytes) ≡ Ok contents) (tables : List TableBytes)
      (are : opened_all (map files behind) ≡ Ok tables) where
    by_given : (inside : Bool) → is_member contents.rules.groups p ≡ inside → (given : Given)
        → ByTest contents bytes tables p inside given
        → a ≡ answer_by (found_over contents bytes tables) p given files
        → MeansEach table behind p files a
    by_given true e (Ok rows) h told =
        means_so Success _ told (record {
          bytes = bytes;
          contents = contents;
          open_file = record { there = there; opens = opens };
          tables = tables;
          all_open = are;
          inside = member_of contents.rules.groups p e;
          rows = rows;
          ranked = h;
          told = ap (λ (x : Answer). x.text) told;
          where_exact = λ value kept.
              rows_tell (value_behind contents bytes tables) value contents bytes p kept
              (rank_for p.turn) rows h;
          where_judged = behind_tells contents bytes tables;
        })
    by_given true e (Err why) h told = absurd h
    by_given false e given h told =
        let outside = told
        ∙ ap (λ (g : Given). answer_by (found_over contents bytes tables) p g files) h in
        means_so (status_of Outside) _ outside (record {
          bytes = bytes;
          contents = contents;
          open_file = record { there = there; opens = opens };
          tables = tables;
          all_open = are;
          outside = λ inside.
              let no : false ≡ true = sym e ∙ of_member contents.rules.groups p inside in cc;
          told = ap (λ (x : Answer). x.text) outside;
        })

  by_behind : (bytes : List ℕ) (contents : Contents) → files table ≡ Some bytes
      → opened_own (Some bytes) ≡ Ok contents → (y : Opened) → opened_all (map files behind) ≡ y
      → IsEachBehind contents bytes y p files a → MeansEach table behind p files a
  by_behind bytes contents there opens (Ok tables) are h =
      by_given bytes contents there opens tables are (is_member contents.rules.groups p) refl h.given
      h.rows h.told
  by_behind bytes contents there opens (Err refused) are told =
      let refuses = of_back (record {
        opens = (contents, ap opened_own there ∙ opens);
        place = refused.0;
        fault = refused.1;
        refused = are;
        told = told;
      }) in
      means_so _ _ told (by_table_status (λ s. MeansEachBy table behind p files a s) refused.1
      refuses refuses)

  by_held : (held : Option (List ℕ)) → files table ≡ held → (contents : Contents)
      → opened_own held ≡ Ok contents
      → IsEachBehind contents (unwrap_or held []) (opened_all (map files behind)) p files a
      → MeansEach table behind p files a
  by_held None there contents opens h =
      absurd (result_is_not_both _ contents table_faults.Missing opens (opened_missing own_format))
  by_held (Some bytes) there contents opens h =
      by_behind bytes contents there opens (opened_all (map files behind)) refl h

  by_opening : (x : Result Contents TableFault) → opened_own (files table) ≡ x
      → IsEachBy x (bytes_at files table) (opened_all (map files behind)) p files a
      → MeansEach table behind p files a
  by_opening (Ok contents) opens h = by_held (files table) refl contents opens h
  by_opening (Err fault) opens told =
      let refuses = of_table (record { fault = fault; refused = opens; told = told }) in
      means_so _ _ told (by_table_status (λ s. MeansEachBy table behind p files a s) fault refuses
      refuses)

  each_means : IsEachAt table behind p files a → MeansEach table behind p files a
  each_means h = by_opening (opened_own (files table)) refl h

at_lawful : (table : List ℕ) (behind : List (List ℕ)) (p : Board)
    → IsLawful (each_at table behind p)
at_lawful table behind p =
    said_job (each_at table behind p) (λ files input. one_each p files table behind)
    (λ files input a h. each_means table behind p files a h)

named_lawful : (names : GivenNames) → IsLawful (each_named names)
named_lawful names =
    fen_lawful (each_at names.table names.behind) (fen_of names.fen)
    (λ p read. at_lawful names.table names.behind p)

pub each_lawful : (words : List (List ℕ)) → IsLawful (each_words words)
each_lawful words = given_lawful each_named named_lawful words
