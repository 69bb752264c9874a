-- What the answers of `verdict` mean.
use Rattle.std.proofs.Common.{◌≡◌, ◌++◌, ◌∷◌, ◌∙◌, [], ℕ, List, Bool, true, false, ap, refl, subst, sym, if◌then◌else◌}
use Rattle.std.specs.Prelude.{length, map}
use Rattle.std.proofs.lemmas.List.{map-append}
use Rattle.frz_board.specs.Boards.{Board}
use Rattle.frz_game.specs.Numbers.{is_member}
use Rattle.frz_index.proofs.Lemmas.{member_of, of_member}
use Rattle.frz_index.specs.Members.{Member}
use Rattle.frz_store.specs.Bytes.{HoldsBytes}
use Rattle.frz_store.specs.Files.{Files}
use Rattle.frz_answer.specs.declared.status.Status.{Status}
use Rattle.frz_answer.specs.declared.status.Status.TheVariants.{Success}
use Rattle.frz_answer.specs.Answers.{Answer, says}
use Rattle.frz_prelude.specs.Refusals.{refusal_line, status_of}
use Rattle.frz_prelude.specs.declared.refused.Refused.TheVariants.{Outside}
use Rattle.frz_prelude.proofs.Lemmas.{by_table_status}
use Rattle.frz_backs.specs.Links.{AreExact, Link}
use Rattle.frz_atlas.specs.Behind.{AreJudged, TableBytes, link_of}
use Rattle.frz_atlas.specs.declared.fault.BackFault.{BackFault}
use Rattle.frz_atlas.specs.declared.fault.BackFault.TheVariants.{Refused, Wrong}
use Rattle.frz_atlas.proofs.Lemmas.{judged_exact}
use Rattle.frz_atlas_prelude.specs.BackLines.{back_status}
use Rattle.frz_atlas_prelude.proofs.Lemmas.{judged_over}
use Rattle.frz_commands_premises.specs.Believing.{BeliefsHold}
use Rattle.frz_commands_premises.proofs.Lemmas.{all_true, none_hold}
use Rattle.frz_commands_premises.specs.PremiseLines.{TextLink, behind_lines, belief_among, links_in, text_link_of}
use Rattle.frz_commands_premises.proofs.Lemmas.{all_read, behind_mean, count_behind, links_are}
use Rattle.frz_commands_verdict.specs.declared.verdict.Verdict.{Verdict}
use Rattle.frz_commands_verdict.specs.Answers.{FindsTables, IsVerdictAt, RefusesTable, found, refused}
use Rattle.frz_commands_verdict.specs.Finding.{names_over}
use Rattle.frz_commands_verdict.specs.VerdictMeans.{IsTrueVerdict, MeansStatus, MeansVerdict, VerdictMeans}
use Rattle.frz_commands_verdict.specs.Texts.{verdict_text}
use Rattle.frz_commands_verdict.specs.Verdicts.{verdict_at}
use Rattle.frz_commands_verdict.proofs.LastTable.{exact_over_others, exits_are_true}
use Rattle.frz_commands_verdict.proofs.TrueVerdicts.{verdict_is_true}

-- by exact tables, the last of which has the position in its set
module _ (before : List TableBytes) (own : TableBytes) (judged : AreJudged (before ++ own ∷ []))
    (p : Board) (member : Member own.contents.rules.groups p) where
  abbrev tables : List TableBytes
  tables = before ++ own ∷ []

  abbrev texts : List TextLink
  texts = map text_link_of tables

  abbrev verdict : Verdict
  verdict = verdict_at (links_in texts) (link_of own) p

  links_exact : AreExact (links_in texts)
  links_exact = subst (λ (l : List Link). AreExact l) (sym (links_are tables))
      (judged_exact tables judged)

  links_split : links_in texts ≡ map link_of before ++ link_of own ∷ []
  links_split = links_are tables ∙ map-append link_of before (own ∷ [])

  true_if_believed : BeliefsHold (links_in texts) → IsTrueVerdict verdict p
  true_if_believed holds =
      let exact = subst (λ (l : List Link). AreExact l) links_split links_exact in
      let behold = subst (λ (l : List Link). BeliefsHold l) links_split holds in
      let links = map link_of before in
      subst (λ (l : List Link). IsTrueVerdict (verdict_at l (link_of own) p) p) (sym links_split)
      (verdict_is_true links (link_of own) (exact_over_others links (link_of own) exact)
      (exits_are_true links (link_of own) exact
      (all_true (links ++ link_of own ∷ []) exact behold)) p member)

  true_if_none : belief_among (behind_lines [] texts) ≡ 0 → IsTrueVerdict verdict p
  true_if_none none =
      true_if_believed (none_hold (links_in texts)
      (sym (count_behind [] texts (all_read tables judged)) ∙ none))

  pub this_means : VerdictMeans p verdict texts
  this_means = record {
    none_believed = true_if_none;
    believed = true_if_believed;
    lines = behind_mean [] texts (all_read tables judged) links_exact;
  }

module _ (table : List ℕ) (behind : List (List ℕ)) (p : Board) (files : Files)
    (are : HoldsBytes files) (a : Answer) where
  means_so : (status : Status) (text : List ℕ) → a ≡ says status text files
      → MeansStatus table behind p files a status → MeansVerdict table behind p files a
  means_so status text e meant = record {
    same = ap (λ (x : Answer). x.files) e;
    untaken = ap (λ (x : Answer). x.taken) e;
    says = subst (λ (s : Status). MeansStatus table behind p files a s)
        (sym (ap (λ (x : Answer). x.status) e)) meant;
  }

  refused_so : (fault : BackFault) → RefusesTable table behind files a
      → MeansStatus table behind p files a (back_status fault)
  refused_so (Refused fault) h =
      by_table_status (λ s. MeansStatus table behind p files a s) fault h h
  refused_so (Wrong wrong) h = h

  module _ (h : FindsTables table behind p files a) where
    abbrev all_tables : List TableBytes
    all_tables = h.before ++ h.own ∷ []

    judged : AreJudged all_tables
    judged = judged_over files are [] (names_over table behind) all_tables h.all.there h.all.exact

    by_member : (b : Bool) → is_member h.own.contents.rules.groups p ≡ b
        → a ≡ (if b
        then says Success (verdict_text p (verdict_at (links_in (map text_link_of all_tables)) (link_of h.own) p)
        (length behind) (behind_lines [] (map text_link_of all_tables))) files
        else says (status_of Outside) (refusal_line Outside) files)
        → MeansVerdict table behind p files a
    by_member true inside e =
        let member = member_of h.own.contents.rules.groups p inside in
        means_so Success _ e (record {
          before = h.before;
          own = h.own;
          there = h.all.there;
          judged = judged;
          inside = member;
          texts = map text_link_of all_tables;
          texts_are = refl;
          verdict = verdict_at (links_in (map text_link_of all_tables)) (link_of h.own) p;
          told = ap (λ (x : Answer). x.text) e;
          means = this_means h.before h.own judged p member;
        })
    by_member false outside e =
        means_so (status_of Outside) _ e (record {
          before = h.before;
          own = h.own;
          there = h.all.there;
          judged = judged;
          outside = λ m.
              let in_set = of_member h.own.contents.rules.groups p m in
              let no : true ≡ false = sym in_set ∙ outside in cc;
          told = ap (λ (x : Answer). x.text) e;
        })

  pub verdict_means : IsVerdictAt table behind p files a → MeansVerdict table behind p files a
  verdict_means (refused h) = means_so _ _ h.told (refused_so h.fault h)
  verdict_means (found h) = by_member h (is_member h.own.contents.rules.groups p) refl h.told
