-- That `premises` has an answer, and only one.
use Rattle.std.proofs.Common.{◌≡◌, refl, sym, ap, ◌∙◌, ℕ, ◌++◌, ◌∷◌, List, [], Option, Some, Result, Ok}
use Rattle.std.specs.Prelude.{flat_map, map}
use Rattle.frz_rules.specs.Text.{rules_of}
use Rattle.frz_sets.specs.Views.{RuleLines}
use Rattle.frz_store.specs.Files.{Files}
use Rattle.frz_answer.specs.declared.status.Status.TheVariants.{Success}
use Rattle.frz_answer.specs.Answers.{Answer, says, SomeAnswer}
use Rattle.frz_answer.specs.Lawful.{HasOneAnswer}
use Rattle.frz_answer.proofs.Lemmas.{behind_said}
use Rattle.frz_prelude.specs.RulesFiles.{rules_held}
use Rattle.frz_prelude.specs.declared.refused.Refused.{Refused as Refusal}
use Rattle.frz_atlas.specs.Behind.{TableBytes}
use Rattle.frz_atlas_prelude.specs.RulesRefusals.{Refuses, of_back, of_rules}
use Rattle.frz_atlas_prelude.specs.Tables.{AreTablesIn}
use Rattle.frz_atlas_prelude.proofs.Lemmas.{held_rules, not_refused, one_refusal, one_tables, some_answer}
use Rattle.frz_commands_premises.specs.LineTexts.{line_text}
use Rattle.frz_commands_premises.specs.PremiseLines.{basis_lines, belief_among, last_lines, links_in, premises_text, text_link_of}
use Rattle.frz_commands_premises.specs.Premises.{FindsPremises, IsToldAt, found, no_back, no_rules}
use Rattle.frz_commands_premises.specs.declared.line.Line.{Line}

abbrev flat_text : List Line → List ℕ
flat_text lines = flat_map line_text lines

-- the text of lines that end so is not empty
ends_said : (lines more : List Line) → (flat_text more ≡ [] → ⊥) → flat_text (lines ++ more) ≡ [] → ⊥
ends_said [] more said e = said e
ends_said (line ∷ lines) more said e =
    behind_said (line_text line) (flat_text (lines ++ more)) (ends_said lines more said) e

pub premises_said : (text : List ℕ) (rules : RuleLines) (tables : List TableBytes) →
    premises_text text rules tables ≡ [] → ⊥
premises_said text rules tables e =
    let texts = map text_link_of tables in
    let lines = basis_lines text rules texts in
    ends_said lines (last_lines rules (links_in texts) (belief_among lines)) (λ k. cc) e

module _ (rules : List ℕ) (behind : List (List ℕ)) (m : Files) where
  abbrev helds : List (Option (List ℕ))
  helds = map m behind

  -- there is an answer
  over_exact : (text : List ℕ) (lines : RuleLines) (tables : List TableBytes) → m rules ≡ Some text
      → rules_of text ≡ Ok lines → AreTablesIn helds tables
      → SomeAnswer (λ a. IsToldAt rules behind m a)
  over_exact text lines tables there accepted exact = record {
    a = says Success (premises_text text lines tables) m;
    answer = found (record {
      text = text;
      there = there;
      lines = lines;
      accepted = accepted;
      tables = tables;
      behind_it = exact;
      told = refl;
    });
    text = premises_said text lines tables;
  }

  pub some_told : SomeAnswer (λ a. IsToldAt rules behind m a)
  some_told =
      some_answer rules behind m (λ a. IsToldAt rules behind m a) (λ a h. no_rules h)
      (λ a h. no_back h) over_exact

  -- and only one
  read_found : (a : Answer) → (h : FindsPremises rules behind m a)
      → rules_held (m rules) ≡ Ok h.lines
  read_found a h = held_rules (m rules) h.text h.lines h.there h.accepted

  same_found : (a b : Answer) → FindsPremises rules behind m a → FindsPremises rules behind m b
      → b ≡ a
  same_found a b h k =
      let same_text : k.text ≡ h.text =
      (let e : Some k.text ≡ Some h.text = sym k.there ∙ h.there in cc) in
      let same_lines : k.lines ≡ h.lines =
      (let e : ◌≡◌ {A = Result RuleLines Refusal} (Ok k.lines) (Ok h.lines) =
      sym (read_found b k) ∙ read_found a h in cc) in
      let same_tables : k.tables ≡ h.tables =
      one_tables [] helds h.tables k.tables h.behind_it.there k.behind_it.there
      h.behind_it.exact k.behind_it.exact in
      k.told
      ∙ ap (λ (t : List ℕ). says Success (premises_text t k.lines k.tables) m) same_text
      ∙ ap (λ (r : RuleLines). says Success (premises_text h.text r k.tables) m) same_lines
      ∙ ap (λ (l : List TableBytes). says Success (premises_text h.text h.lines l) m) same_tables
      ∙ sym h.told

  found_is_not_refused : (a b : Answer) → FindsPremises rules behind m a → Refuses rules behind m b
      → ⊥
  found_is_not_refused a b h k =
      not_refused rules behind m h.text h.lines h.tables b h.there h.accepted h.behind_it k

  one_of : (a b : Answer) → IsToldAt rules behind m a → IsToldAt rules behind m b → b ≡ a
  one_of a b (no_rules h) (no_rules k) = one_refusal rules behind m a b (of_rules h) (of_rules k)
  one_of a b (no_rules h) (no_back k) = one_refusal rules behind m a b (of_rules h) (of_back k)
  one_of a b (no_rules h) (found k) = absurd (found_is_not_refused b a k (of_rules h))
  one_of a b (no_back h) (no_rules k) = one_refusal rules behind m a b (of_back h) (of_rules k)
  one_of a b (no_back h) (no_back k) = one_refusal rules behind m a b (of_back h) (of_back k)
  one_of a b (no_back h) (found k) = absurd (found_is_not_refused b a k (of_back h))
  one_of a b (found h) (no_rules k) = absurd (found_is_not_refused a b h (of_rules k))
  one_of a b (found h) (no_back k) = absurd (found_is_not_refused a b h (of_back k))
  one_of a b (found h) (found k) = same_found a b h k

  pub one_told : HasOneAnswer (λ a. IsToldAt rules behind m a)
  one_told = (some_told.a, some_told.answer, λ b h. one_of some_told.a b some_told.answer h)
