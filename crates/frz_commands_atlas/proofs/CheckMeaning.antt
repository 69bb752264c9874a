-- What the answers of `check` mean.
use Rattle.std.proofs.Common.{◌≡◌, refl, sym, ap, subst, ◌∙◌, ℕ, Bool, true, false, List, [], Option, IfSome}
use Rattle.std.specs.Prelude.{map}
use Rattle.frz_board.specs.Boards.{Board}
use Rattle.frz_board.specs.declared.man.Colour.{Colour}
use Rattle.frz_board.specs.declared.man.Colour.TheVariants.{White, Black}
use Rattle.frz_exits.specs.Books.{value_by}
use Rattle.frz_game.specs.Bounds.{IsTableOf}
use Rattle.frz_game.specs.Values.{AreTrueExits}
use Rattle.frz_game.proofs.Lemmas.{exits_by_men, plies_few, table_exactly, table_means, text_by_men}
use Rattle.frz_rules.proofs.Lemmas.{text_sound}
use Rattle.frz_sets.specs.Sets.{size_of}
use Rattle.frz_sets.specs.Views.{RuleLines}
use Rattle.frz_sets.specs.declared.exit.Value.{Value}
use Rattle.frz_store.specs.Bytes.{AreBytes, HoldsBytes}
use Rattle.frz_store.specs.Files.{Files}
use Rattle.frz_table.specs.Opening.{Contents, own_format}
use Rattle.frz_table.proofs.Lemmas.{belongs}
use Rattle.frz_check.specs.declared.verdict.Verdict.{Verdict}
use Rattle.frz_check.specs.declared.verdict.Verdict.TheVariants as verdicts
use Rattle.frz_check.specs.Kept.{kept_codes}
use Rattle.frz_check.proofs.Lemmas.{one_file_holds, one_file_opens, tables_are_one}
use Rattle.frz_atlas.specs.Books.{Back}
use Rattle.frz_atlas.specs.Links.{AreExact, AreTrueLines, Link, backs_of, own_over, value_over}
use Rattle.frz_atlas.proofs.Lemmas.{over_small, exits_over_true, mates_within, outcomes_over, tables_decide}
use Rattle.frz_answer.specs.declared.status.Status.{Status}
use Rattle.frz_answer.specs.declared.status.Status.TheVariants as statuses
use Rattle.frz_answer.specs.Answers.{Answer, says}
use Rattle.frz_prelude.proofs.Lemmas.{by_table_status}
use Rattle.frz_atlas.specs.Behind.{AreJudged, backs_in, kind_of, leans, link_of}
use Rattle.frz_atlas.specs.Checking.{sizes_in}
use Rattle.frz_atlas.specs.declared.fault.BackFault.{BackFault}
use Rattle.frz_atlas.specs.declared.fault.BackFault.TheVariants.{Refused, Wrong}
use Rattle.frz_atlas.proofs.Lemmas.{as_own, judged_exact, links_backs, of_own}
use Rattle.frz_atlas_prelude.specs.BackLines.{back_status}
use Rattle.frz_atlas_prelude.specs.TableRefusals.{RefusesBehind}
use Rattle.frz_atlas_prelude.proofs.Lemmas.{judged_over, never_refused, result_is_not_both}
use Rattle.frz_commands_atlas.specs.AtlasHeadline.{AtlasHeadline, HeadlineOver}
use Rattle.frz_commands_atlas.specs.Checking.{IsCheckedAt, IsJudgedAtlas, judged, no_back, no_table, verdict_line, verdict_status}
use Rattle.frz_commands_atlas.specs.CheckMeans.{HoldsAtlas, MeansCheck, MeansStatus, of_back, of_entry, of_fault, of_table}
use Rattle.frz_commands_atlas.proofs.CheckOnce.{opens_judged, same_verdict}

module _ (table : List ℕ) (behind : List (List ℕ)) (files : Files) (are : HoldsBytes files) where
  module _ (h : IsJudgedAtlas (files table) (map files behind) verdicts.Exact) where
    abbrev rules : RuleLines
    rules = h.contents.rules

    abbrev links : List Link
    links = map link_of h.tables

    abbrev value : Board → Value
    value = value_over (leans h.bytes) rules (backs_of links)

    all_judged : AreJudged h.tables
    all_judged = judged_over files are [] behind h.tables h.behind_it.there h.behind_it.exact

    links_exact : AreExact links
    links_exact = judged_exact h.tables all_judged

    own_bytes : AreBytes h.bytes
    own_bytes = subst (λ (o : Option (List ℕ)). IfSome o AreBytes) h.there (are table)

    kept_codes_are_table : (side : Colour)
        → IsTableOf rules value side (kept_codes h.contents h.bytes side)
    kept_codes_are_table = subst
        (λ (backs : List Back). (side : Colour) → IsTableOf rules (value_over (leans h.bytes) rules backs) side
        (kept_codes h.contents h.bytes side)) (sym (links_backs h.tables)) h.judged

    exits_so : (b : Bool) → AreTrueLines links
        → AreTrueExits rules (own_over b rules (backs_of links))
        → AreTrueExits rules (value_over b rules (backs_of links))
    exits_so true lines own = exits_over_true rules links links_exact lines own
    exits_so false lines own = own

    leans_so : (b : Bool) (codes : Colour → List ℕ)
        → ((side : Colour) → IsTableOf rules (value_over b rules (backs_of links)) side (codes side))
        → b ≡ true → HeadlineOver rules links (codes White) (codes Black)
    leans_so true codes are e = record {
      white_mates = mates_within rules links links_exact White;
      black_mates = mates_within rules links links_exact Black;
      decided = tables_decide rules links links_exact;
      white_outcomes = outcomes_over rules links links_exact White (codes White) (are White);
      black_outcomes = outcomes_over rules links links_exact Black (codes Black) (are Black);
    }
    leans_so false codes are e = absurd cc

    -- all tables are exact
    abbrev headline : AtlasHeadline table behind files
    headline =
        let known = belongs own_format h.bytes h.contents h.opens in
        record {
          tables = h.tables;
          behind_there = h.behind_it.there;
          behind_judged = all_judged;
          links = links;
          links_are = refl;
          behind_exact = links_exact;
          bytes = h.bytes;
          there = h.there;
          text = h.contents.text;
          rules = rules;
          accepted = known.read;
          layout = known.file;
          white = kept_codes h.contents h.bytes White;
          black = kept_codes h.contents h.bytes Black;
          white_is = refl;
          black_is = refl;
          white_table = kept_codes_are_table White;
          black_table = kept_codes_are_table Black;
          one_file = tables_are_one (kind_of h.bytes) value h.contents h.bytes own_bytes
              (of_own h.bytes h.contents h.opens) kept_codes_are_table;
          white_means =
              table_means rules value White (kept_codes h.contents h.bytes White)
              (kept_codes_are_table White);
          black_means =
              table_means rules value Black (kept_codes h.contents h.bytes Black)
              (kept_codes_are_table Black);
          true_exits = λ own lines. exits_so (leans h.bytes) lines own;
          true_by_men = λ men. exits_by_men rules (value_by rules) (text_by_men rules men);
          white_exact =
              table_exactly rules value White (kept_codes h.contents h.bytes White)
              (kept_codes_are_table White);
          black_exact =
              table_exactly rules value Black (kept_codes h.contents h.bytes Black)
              (kept_codes_are_table Black);
          over = leans_so (leans h.bytes) (kept_codes h.contents h.bytes) kept_codes_are_table;
        }

  -- the one file of a text over exact tables is exact
  abbrev pub exact_atlas : HoldsAtlas table behind files
      → IsJudgedAtlas (files table) (map files behind) verdicts.Exact
  exact_atlas p =
      let contents : Contents = record { text = p.text; rules = p.rules } in
      let kind = kind_of p.bytes in
      let value = value_over (leans p.bytes) p.rules (backs_in p.tables) in
      let sound = text_sound p.text p.rules p.accepted in
      record {
        bytes = p.bytes;
        there = p.there;
        contents = contents;
        opens = as_own p.bytes contents (one_file_opens kind value contents p.bytes p.accepted p.one_file);
        tables = p.tables;
        behind_it = p.behind_it;
        judged = one_file_holds kind value contents p.bytes
            (plies_few p.rules value (over_small (leans p.bytes) p.rules (backs_in p.tables) sound))
            p.accepted p.one_file;
      }

  module _ (a : Answer) where
    means_so : (status : Status) (text : List ℕ) → a ≡ says status text files
        → MeansStatus table behind files a status
        → (HoldsAtlas table behind files → status ≡ statuses.Success)
        → MeansCheck table behind files a
    means_so status text e says accepts = record {
      same = ap (λ (x : Answer). x.files) e;
      untaken = ap (λ (x : Answer). x.taken) e;
      says = subst (λ (s : Status). MeansStatus table behind files a s)
          (sym (ap (λ (x : Answer). x.status) e)) says;
      accepts = λ p. ap (λ (x : Answer). x.status) e ∙ accepts p;
    }

    says_back : (fault : BackFault) → RefusesBehind table behind files a
        → MeansStatus table behind files a (back_status fault)
    says_back (Refused fault) h =
        by_table_status (λ s. MeansStatus table behind files a s) fault (of_back h) (of_back h)
    says_back (Wrong wrong) h = of_fault (of_back h)

    says_verdict : (v : Verdict) → (h : IsJudgedAtlas (files table) (map files behind) v)
        → a.text ≡ verdict_line (size_of h.contents.rules.groups) (sizes_in h.tables) v
        → MeansStatus table behind files a (verdict_status v)
    says_verdict verdicts.Exact h e = record { exact = headline h; told = e }
    says_verdict (verdicts.Wrong wrong) h e =
        of_entry (record { wrong = wrong; first = h; told = e })

    pub check_means : IsCheckedAt table behind files a → MeansCheck table behind files a
    check_means (no_table h) =
        means_so _ _ h.told
        (by_table_status (λ s. MeansStatus table behind files a s) h.fault (of_table h) (of_table h))
        (λ p. let k = exact_atlas p in
        absurd (result_is_not_both _ k.contents h.fault
        (opens_judged table behind files verdicts.Exact k)
        h.refused))
    check_means (no_back h) =
        means_so _ _ h.told (says_back h.fault h)
        (λ p. absurd (never_refused [] (map files behind) p.tables h.place h.fault p.behind_it.there
        p.behind_it.exact h.refused))
    check_means (judged v h e) =
        means_so _ _ e (says_verdict v h (ap (λ (x : Answer). x.text) e))
        (λ p. ap verdict_status (same_verdict table behind files verdicts.Exact v (exact_atlas p) h))
