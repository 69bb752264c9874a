-- What the answers of `chaincheck` mean.
use Rattle.std.proofs.Common.{IfSome, Some, ◌≡◌, refl, sym, ap, subst, ℕ, List, Option, Ok}
use Rattle.frz_board.specs.declared.man.Colour.TheVariants.{White, Black}
use Rattle.frz_exits.specs.Books.{value_by}
use Rattle.frz_game.proofs.Lemmas.{plies_few, table_means, table_exactly}
use Rattle.frz_rules.specs.Text.{rules_of}
use Rattle.frz_rules.proofs.Lemmas.{text_sound}
use Rattle.frz_sets.specs.Sets.{size_of}
use Rattle.frz_sets.specs.Views.{RuleLines}
use Rattle.frz_store.specs.Bytes.{AreBytes, HoldsBytes}
use Rattle.frz_store.specs.Files.{Files}
use Rattle.frz_table.specs.declared.fault.TableFault.{TableFault}
use Rattle.frz_table.specs.declared.kind.FileKind.TheVariants.{Plain, Chained}
use Rattle.frz_table.specs.Opening.{Contents, table_format}
use Rattle.frz_table.proofs.Lemmas.{belongs}
use Rattle.frz_check.specs.declared.verdict.Verdict.{Verdict}
use Rattle.frz_check.specs.declared.verdict.Verdict.TheVariants as verdict
use Rattle.frz_check.specs.Kept.{kept_codes}
use Rattle.frz_check.proofs.Lemmas.{file_tables, one_file_holds, one_file_opens, tables_are_one}
use Rattle.frz_chain.specs.Books.{Back, chain_value}
use Rattle.frz_chain.specs.FileOn.{IsExactBack, IsFileOn, back_of}
use Rattle.frz_chain.proofs.Lemmas.{chain_small, chain_within, chained_true, chain_decided}
use Rattle.frz_answer.specs.declared.status.Status.{Status}
use Rattle.frz_answer.specs.declared.status.Status.TheVariants as statuses
use Rattle.frz_answer.specs.Answers.{Answer, says}
use Rattle.frz_answer.specs.Lawful.{IsLawful}
use Rattle.frz_answer.specs.Words.{two_words_of}
use Rattle.frz_answer.proofs.Lemmas.{taking_lawful}
use Rattle.frz_prelude.specs.Refusals.{refusal_line, status_of, table_status}
use Rattle.frz_prelude.specs.declared.refused.Refused.{Refused as Refusal}
use Rattle.frz_prelude.specs.declared.refused.Refused.TheVariants as refusals
use Rattle.frz_prelude.proofs.Lemmas.{by_table_status}
use Rattle.frz_commands_chain.specs.Backs.{IsBackIn}
use Rattle.frz_commands_chain.specs.ChainHeadline.{ChainHeadline}
use Rattle.frz_commands_chain.specs.Checking.{IsCheckedPair, IsJudgedPair, IsRefusedPair, refused, judged, chain_status, chain_verdict_line}
use Rattle.frz_commands_chain.specs.CheckMeans.{HoldsPair, MeansChainCheck, MeansStatus, TellsRefusal, of_back, of_table, checking_pair, chaincheck_words}
use Rattle.frz_commands_chain.proofs.BackOnce.{judged_so}
use Rattle.frz_commands_chain.proofs.PairOnce.{by_refusal, never_judged, one_pair, same_verdict}

-- what stands in a back table is exact by its own exit lines
exact_back : (held : Option (List ℕ)) (back : Back) → (h : IsBackIn held back)
    → IsExactBack h.contents.rules (value_by h.contents.rules) back
exact_back held back h =
    subst (λ (b : Back). IsExactBack h.contents.rules (value_by h.contents.rules) b) (sym h.keeps)
    (record { set = refl; white = h.judged.codes White; black = h.judged.codes Black })

-- the one file of a text over a back table is exact
pub judged_on : (held back_held : Option (List ℕ)) (bytes text : List ℕ) (rules : RuleLines)
    (behind : Back) → held ≡ Some bytes → IsBackIn back_held behind
    → rules_of text ≡ Ok rules → IsFileOn text rules behind bytes
    → IsJudgedPair held back_held verdict.Exact
judged_on held back_held bytes text rules behind there back_there read one =
    let contents : Contents = record { text = text; rules = rules } in
    let value = chain_value rules behind in
    let sound = text_sound text rules read in
    record {
      bytes = bytes;
      there = there;
      contents = contents;
      opens = one_file_opens Chained value contents bytes read one;
      behind = behind;
      back_there = back_there;
      judged = one_file_holds Chained value contents bytes
          (plies_few rules value (chain_small rules behind sound)) read one;
    }

module _ (table back : List ℕ) (files : Files) (are : HoldsBytes files) where
  are_bytes : (name bytes : List ℕ) → files name ≡ Some bytes → AreBytes bytes
  are_bytes name bytes there =
      subst (λ (o : Option (List ℕ)). IfSome o AreBytes) there (are name)

  -- both tables are exact
  abbrev headline : IsJudgedPair (files table) (files back) verdict.Exact
      → ChainHeadline table back files
  headline h =
      let k = h.back_there in
      let rules = h.contents.rules in
      let known = belongs (table_format Chained) h.bytes h.contents h.opens in
      let back_known = belongs (table_format Plain) k.bytes k.contents k.judged.opens in
      let value = chain_value rules h.behind in
      let exact = exact_back (files back) h.behind k in
      record {
        back_bytes = k.bytes;
        back_there = k.there;
        back_text = k.contents.text;
        back_rules = k.contents.rules;
        back_accepted = back_known.read;
        back_layout = back_known.file;
        behind = h.behind;
        behind_is = sym k.keeps;
        back_exact = exact;
        back_one_file = (k.judged.told (are_bytes back k.bytes k.there)).one_file.0 refl;
        bytes = h.bytes;
        there = h.there;
        text = h.contents.text;
        rules = rules;
        accepted = known.read;
        layout = known.file;
        white = kept_codes h.contents h.bytes White;
        black = kept_codes h.contents h.bytes Black;
        white_is = refl;
        black_is = refl;
        white_table = h.judged White;
        black_table = h.judged Black;
        one_file = tables_are_one Chained value h.contents h.bytes
            (are_bytes table h.bytes h.there) h.opens h.judged;
        white_means =
            table_means rules value White (kept_codes h.contents h.bytes White) (h.judged White);
        black_means =
            table_means rules value Black (kept_codes h.contents h.bytes Black) (h.judged Black);
        true_exits = λ own others. chained_true rules k.contents.rules (value_by k.contents.rules)
            h.behind exact own others;
        white_mates = chain_within rules k.contents.rules (value_by k.contents.rules) h.behind exact
            White;
        black_mates = chain_within rules k.contents.rules (value_by k.contents.rules) h.behind exact
            Black;
        back_white_exact =
            table_exactly k.contents.rules (value_by k.contents.rules) White h.behind.white
            exact.white;
        back_black_exact =
            table_exactly k.contents.rules (value_by k.contents.rules) Black h.behind.black
            exact.black;
        white_exact =
            table_exactly rules value White (kept_codes h.contents h.bytes White) (h.judged White);
        black_exact =
            table_exactly rules value Black (kept_codes h.contents h.bytes Black) (h.judged Black);
        decided = chain_decided rules k.contents.rules (value_by k.contents.rules) h.behind exact;
      }

  says_verdict : (v : Verdict) → (h : IsJudgedPair (files table) (files back) v)
      → MeansStatus table back files (chain_status v)
      (chain_verdict_line (size_of h.contents.rules.groups) (size_of h.behind.groups) v)
  says_verdict verdict.Exact h = record { exact = headline h; told = refl }
  says_verdict (verdict.Wrong w) h = of_table (record { wrong = w; first = h; told = refl })

  -- by the status of a table that is refused
  tells_refused_pair : (why : Refusal) (status : Status)
      → IsRefusedPair (files table) (files back) why
      → status ≡ status_of why
      → TellsRefusal table back files status (refusal_line why)
  tells_refused_pair why status h e = record { why = why; refused = h; status_is = e; told = refl }

  of_status : (why : Refusal) (fault : TableFault) → IsRefusedPair (files table) (files back) why
      → table_status fault ≡ status_of why
      → MeansStatus table back files (table_status fault) (refusal_line why)
  of_status why fault h e =
      by_table_status (λ s. s ≡ status_of why → MeansStatus table back files s (refusal_line why))
      fault
      (λ is. tells_refused_pair why statuses.Missing h is)
      (λ is. tells_refused_pair why statuses.Table h is) e

  says_refusal : (why : Refusal) → IsRefusedPair (files table) (files back) why
      → MeansStatus table back files (status_of why) (refusal_line why)
  says_refusal why h =
      by_refusal (λ w. MeansStatus table back files (status_of w) (refusal_line w)) (files table)
      (files back) why h
      (λ fault e. of_status (refusals.Table fault) fault e refl)
      (λ fault opens e. of_status (refusals.Back fault) fault (opens, e) refl)
      (λ w opens e. of_back
      (tells_refused_pair (refusals.BackWrong w) statuses.Wrong (opens, e) refl))

  -- the one files of two texts are exact
  exact_pair : HoldsPair table back files → IsJudgedPair (files table) (files back) verdict.Exact
  exact_pair p =
      let k = p.back_contents in
      judged_on (files table) (files back) p.bytes p.text p.rules (back_of k p.back_bytes) p.there
      (record {
        bytes = p.back_bytes;
        there = p.back_there;
        contents = k;
        judged =
            judged_so p.back_bytes k verdict.Exact
            (one_file_opens Plain (value_by k.rules) k p.back_bytes p.back_accepted p.back_file)
            (file_tables k p.back_bytes p.back_accepted p.back_file);
        keeps = refl;
      })
      p.accepted p.one_file

  means_so : (a : Answer) (status : Status) (text : List ℕ) → a ≡ says status text files
      → MeansStatus table back files status text
      → (HoldsPair table back files → status ≡ statuses.Success)
      → MeansChainCheck table back files a
  means_so a status text e says accepts =
      subst (λ (x : Answer). MeansChainCheck table back files x) (sym e)
      (record { same = refl; untaken = refl; says = says; accepts = accepts })

  pair_means : (a : Answer) → IsCheckedPair table back files a → MeansChainCheck table back files a
  pair_means a (refused why h e) =
      means_so a (status_of why) (refusal_line why) e (says_refusal why h)
      (λ p. absurd (never_judged (files table) (files back) why verdict.Exact h (exact_pair p)))
  pair_means a (judged v h e) =
      means_so a (chain_status v)
      (chain_verdict_line (size_of h.contents.rules.groups) (size_of h.behind.groups) v) e
      (says_verdict v h)
      (λ p. ap chain_status
      (same_verdict (files table) (files back) verdict.Exact v (exact_pair p) h))

pair_lawful : (table back : List ℕ) → IsLawful (checking_pair table back)
pair_lawful table back =
    record {
      one = λ files input. one_pair table back files;
      means = λ files input a are h. pair_means table back files are a h;
    }

pub chaincheck_lawful : (words : List (List ℕ)) → IsLawful (chaincheck_words words)
chaincheck_lawful words =
    taking_lawful (λ (names : List ℕ × List ℕ). checking_pair names.0 names.1) (two_words_of words)
    (λ names. pair_lawful names.0 names.1)
