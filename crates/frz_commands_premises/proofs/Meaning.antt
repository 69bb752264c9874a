-- What the answers of `premises` mean.
use Rattle.std.proofs.Common.{Bool, ◌≡◌, ◌++◌, ◌∷◌, [], ℕ, List, All, ap, append_assoc, refl, subst, sym}
use Rattle.std.specs.Prelude.{Ok, map}
use Rattle.std.proofs.lemmas.List.Elements.{All-head, All-tail}
use Rattle.frz_exits.specs.Books.{value_by}
use Rattle.frz_game.specs.Values.{AreTrueExits}
use Rattle.frz_rules.specs.Text.{rules_of}
use Rattle.frz_sets.specs.Views.{RuleLines}
use Rattle.frz_store.specs.Bytes.{HoldsBytes}
use Rattle.frz_store.specs.Files.{Files}
use Rattle.frz_atlas.specs.Links.{AreExact, Link}
use Rattle.frz_atlas.specs.Behind.{AreJudged}
use Rattle.frz_atlas.specs.declared.fault.BackFault.{BackFault}
use Rattle.frz_atlas.specs.declared.fault.BackFault.TheVariants.{Refused, Wrong}
use Rattle.frz_atlas.proofs.Lemmas.{judged_exact}
use Rattle.frz_answer.specs.declared.status.Status.{Status}
use Rattle.frz_answer.specs.declared.status.Status.TheVariants.{Success}
use Rattle.frz_answer.specs.Answers.{Answer, says}
use Rattle.frz_prelude.specs.Refusals.{status_of}
use Rattle.frz_prelude.specs.declared.refused.Refused.{Refused as Refusal}
use Rattle.frz_prelude.proofs.Lemmas.{by_table_status, of_rules as by_rules}
use Rattle.frz_premises.proofs.Lemmas.{all_prove, all_true, believed_needs_belief, line_rests, line_true, none_hold, none_holds, true_over}
use Rattle.frz_exit_lines.proofs.Lemmas.{as_many_lines, said_there}
use Rattle.frz_atlas_prelude.specs.BackLines.{back_status}
use Rattle.frz_atlas_prelude.specs.RulesRefusals.{Refuses, of_back, of_rules}
use Rattle.frz_atlas_prelude.proofs.Lemmas.{judged_over}
use Rattle.frz_commands_premises.specs.PremiseLines.{TextLink, basis_lines, belief_among, built_value, leans_over, links_in, text_link_of}
use Rattle.frz_commands_premises.specs.Premises.{FindsPremises, IsToldAt, found, no_back, no_rules}
use Rattle.frz_commands_premises.specs.PremisesMean.{AllLinesMean, LinesMean, MeansPremises, MeansStatus, TellsPremises}
use Rattle.frz_commands_premises.proofs.BeliefCounted.{IsReadAs, none_counted}
use Rattle.frz_commands_premises.proofs.ExactTables.{all_read, exact_front, links_are}
use Rattle.frz_commands_premises.proofs.SideWords.{word_means}

-- of one text
lines_mean : (leans : Bool) (text : List ℕ) (rules : RuleLines) (links : List Link) → rules_of text ≡ Ok rules →
    AreExact links → LinesMean leans text rules links
lines_mean leans text rules links read exact = record {
  numbered = as_many_lines text rules read;
  said = λ k n e. said_there text rules read k n e;
  not_believed = λ own i line there h q x d.
      line_true leans rules (value_by rules) links (all_prove links exact own) i line there h q x d;
  rests = λ i line there. line_rests leans rules links i line;
  believed = λ i line q h. believed_needs_belief leans rules (value_by rules) links i line q h;
}

-- and of each table's text, with the tables before it
pub behind_mean : (before : List Link) (tables : List TextLink) → All IsReadAs tables →
    AreExact (before ++ links_in tables) → AllLinesMean before tables
unfolding AllLinesMean
behind_mean before [] read exact = tt
behind_mean before (t ∷ tables) read exact = (
  lines_mean t.link.leans t.text t.link.rules before (All-head IsReadAs t tables read)
      (exact_front [] before (t.link ∷ links_in tables) exact),
  behind_mean (before ++ t.link ∷ []) tables (All-tail IsReadAs t tables read)
      (subst (λ (l : List Link). AreExact l)
      (sym (append_assoc before (t.link ∷ []) (links_in tables))) exact),
)

module _ (rules : List ℕ) (behind : List (List ℕ)) (files : Files) (are : HoldsBytes files)
    (a : Answer) where
  -- the premises are told
  module _ (h : FindsPremises rules behind files a) where
    abbrev texts : List TextLink
    texts = map text_link_of h.tables

    abbrev links : List Link
    links = links_in texts

    abbrev believed : ℕ
    believed = belief_among (basis_lines h.text h.lines texts)

    all_judged : AreJudged h.tables
    all_judged = judged_over files are [] behind h.tables h.behind_it.there h.behind_it.exact

    links_exact : AreExact links
    links_exact = subst (λ (l : List Link). AreExact l) (sym (links_are h.tables))
        (judged_exact h.tables all_judged)

    true_exits : believed ≡ 0 → AreTrueExits h.lines (built_value h.lines links)
    true_exits none =
        let parts = none_counted h.text h.lines texts h.accepted (all_read h.tables all_judged)
        none in
        true_over (leans_over links) h.lines links links_exact
        (all_true links links_exact (none_hold links parts.0))
        (none_holds (leans_over links) h.lines links parts.1)

    answer_tells_premises : TellsPremises rules behind files a.text
    answer_tells_premises = record {
      rules_text = h.text;
      there = h.there;
      lines = h.lines;
      accepted = h.accepted;
      tables = h.tables;
      behind_there = h.behind_it.there;
      behind_judged = all_judged;
      told = ap (λ (x : Answer). x.text) h.told;
      texts = texts;
      texts_are = refl;
      links = links;
      links_are = refl;
      behind_exact = links_exact;
      behind_mean = behind_mean [] texts (all_read h.tables all_judged) links_exact;
      rules_mean = lines_mean (leans_over links) h.text h.lines links h.accepted links_exact;
      none_believed = true_exits;
      sides = λ side codes table.
          word_means h.lines links side codes believed links_exact true_exits table;
    }

  means_so : (status : Status) (text : List ℕ) → a ≡ says status text files →
      MeansStatus rules behind files a status → MeansPremises rules behind files a
  means_so status text e meant = record {
    same = ap (λ (x : Answer). x.files) e;
    untaken = ap (λ (x : Answer). x.taken) e;
    says = subst (λ (s : Status). MeansStatus rules behind files a s)
        (sym (ap (λ (x : Answer). x.status) e)) meant;
  }

  means_back : (fault : BackFault) → Refuses rules behind files a →
      MeansStatus rules behind files a (back_status fault)
  means_back (Refused fault) h =
      by_table_status (λ s. MeansStatus rules behind files a s) fault h h
  means_back (Wrong wrong) h = h

  pub premises_mean : IsToldAt rules behind files a → MeansPremises rules behind files a
  premises_mean (no_rules h) =
      means_so _ _ h.told
      (by_rules (λ (why : Refusal). MeansStatus rules behind files a (status_of why))
      (files rules) h.why h.refused (of_rules h) (λ fault. of_rules h))
  premises_mean (no_back h) = means_so _ _ h.told (means_back h.fault (of_back h))
  premises_mean (found h) = means_so Success _ h.told (answer_tells_premises h)
