-- That a command on rules and the tables behind them has an answer, and refuses in only one way.
use Rattle.std.proofs.Common.{◌≡◌, refl, sym, ap, ◌∙◌, ℕ, List, [], Option, Some, None, Result, Ok, Err}
use Rattle.std.specs.Prelude.{map}
use Rattle.frz_rules.specs.Text.{rules_of}
use Rattle.frz_rules.specs.declared.fault.RulesFault.{RulesFault}
use Rattle.frz_sets.specs.Views.{RuleLines}
use Rattle.frz_store.specs.Files.{Files}
use Rattle.frz_answer.specs.Answers.{Answer, says, SomeAnswer}
use Rattle.frz_prelude.specs.Refusals.{refusal_line, status_of}
use Rattle.frz_prelude.specs.RulesFiles.{or_fault, rules_held}
use Rattle.frz_prelude.specs.declared.refused.Refused.{Refused as Refusal}
use Rattle.frz_prelude.proofs.Lemmas.{refusal_said}
use Rattle.frz_atlas.specs.Behind.{TableBytes}
use Rattle.frz_atlas.specs.declared.fault.BackFault.{BackFault}
use Rattle.frz_atlas_prelude.specs.BackLines.{back_line, back_status}
use Rattle.frz_atlas_prelude.specs.RulesRefusals.{Refuses, RefusesBack, RefusesRules, of_back, of_rules}
use Rattle.frz_atlas_prelude.specs.Tables.{AreTablesIn}
use Rattle.frz_atlas_prelude.proofs.BackRefused.{back_line_not_empty, result_is_not_both}
use Rattle.frz_atlas_prelude.proofs.TablesOnce.{AllFound, all_exact, all_found, never_refused, one_place, one_refused}

-- the rules that a text that is there gives
pub held_rules : (held : Option (List ℕ)) (text : List ℕ) (lines : RuleLines) → held ≡ Some text
    → rules_of text ≡ Ok lines → rules_held held ≡ Ok lines
held_rules held text lines there accepted = ap rules_held there ∙ ap or_fault accepted

module _ (rules : List ℕ) (behind : List (List ℕ)) (m : Files) where
  -- there is an answer where each refusal is one, and there is one over exact tables
  module _ (IsAnswer : Answer → Type 0)
      (no_rules : (a : Answer) → RefusesRules rules m a → IsAnswer a)
      (no_back : (a : Answer) → RefusesBack rules behind m a → IsAnswer a)
      (over_exact : (text : List ℕ) (lines : RuleLines) (tables : List TableBytes)
      → m rules ≡ Some text → rules_of text ≡ Ok lines → AreTablesIn (map m behind) tables
      → SomeAnswer IsAnswer) where
    by_behind : (text : List ℕ) (lines : RuleLines) → m rules ≡ Some text
        → rules_of text ≡ Ok lines → AllFound [] (map m behind) → SomeAnswer IsAnswer
    by_behind text lines there accepted (one_refused place fault h) = record {
      a = says (back_status fault) (back_line place fault) m;
      answer = no_back _ (record {
        lines = lines;
        accepted = held_rules (m rules) text lines there accepted;
        place = place;
        fault = fault;
        refused = h;
        told = refl;
      });
      text = back_line_not_empty place fault;
    }
    by_behind text lines there accepted (all_exact tables are h) =
        over_exact text lines tables there accepted (record { there = are; exact = h })

    no_answer : (why : Refusal) → rules_held (m rules) ≡ Err why → SomeAnswer IsAnswer
    no_answer why e = record {
      a = says (status_of why) (refusal_line why) m;
      answer = no_rules _ (record { why = why; refused = e; told = refl });
      text = refusal_said why;
    }

    by_text : (text : List ℕ) → m rules ≡ Some text → (x : Result RuleLines RulesFault)
        → rules_of text ≡ x → SomeAnswer IsAnswer
    by_text text there (Ok lines) e = by_behind text lines there e (all_found [] (map m behind))
    by_text text there (Err fault) e = no_answer _ (ap rules_held there ∙ ap or_fault e)

    by_held : (held : Option (List ℕ)) → m rules ≡ held → SomeAnswer IsAnswer
    by_held None e = no_answer _ (ap rules_held e)
    by_held (Some text) e = by_text text e (rules_of text) refl

    pub some_answer : SomeAnswer IsAnswer
    some_answer = by_held (m rules) refl

  -- there is one refusal
  pub one_refusal : (a b : Answer) → Refuses rules behind m a → Refuses rules behind m b → b ≡ a
  one_refusal a b (of_rules h) (of_rules k) =
      let same : k.why ≡ h.why =
      (let e : ◌≡◌ {A = Result RuleLines Refusal} (Err k.why) (Err h.why) = sym k.refused
      ∙ h.refused in cc) in
      k.told ∙ ap (λ (w : Refusal). says (status_of w) (refusal_line w) m) same ∙ sym h.told
  one_refusal a b (of_rules h) (of_back k) =
      absurd (result_is_not_both (rules_held (m rules)) k.lines h.why k.accepted h.refused)
  one_refusal a b (of_back h) (of_rules k) =
      absurd (result_is_not_both (rules_held (m rules)) h.lines k.why h.accepted k.refused)
  one_refusal a b (of_back h) (of_back k) =
      let same = one_place [] (map m behind) k.place h.place k.fault h.fault k.refused h.refused in
      k.told ∙ ap (λ (n : ℕ). says (back_status k.fault) (back_line n k.fault) m) same.0
      ∙ ap (λ (f : BackFault). says (back_status f) (back_line h.place f) m) same.1 ∙ sym h.told

  -- and none where the rules are accepted and the tables exact
  pub not_refused : (text : List ℕ) (lines : RuleLines) (tables : List TableBytes) (a : Answer)
      → m rules ≡ Some text → rules_of text ≡ Ok lines → AreTablesIn (map m behind) tables
      → Refuses rules behind m a → ⊥
  not_refused text lines tables a there accepted exact (of_rules h) =
      result_is_not_both (rules_held (m rules)) lines h.why
      (held_rules (m rules) text lines there accepted)
      h.refused
  not_refused text lines tables a there accepted exact (of_back h) =
      never_refused [] (map m behind) tables h.place h.fault exact.there exact.exact h.refused
