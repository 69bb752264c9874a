-- That `build` has an answer, and only one, and what it means.
use Rattle.std.proofs.Common.{◌≡◌, refl, sym, ap, subst, ◌∙◌, ℕ, List, [], Option, Some, Result, Ok}
use Rattle.std.specs.Prelude.{map}
use Rattle.frz_game.proofs.Lemmas.{table_one, table_there}
use Rattle.frz_rules.specs.Text.{rules_of}
use Rattle.frz_rules.proofs.Lemmas.{text_sound}
use Rattle.frz_sets.specs.Sets.{size_of}
use Rattle.frz_sets.specs.Views.{RuleLines}
use Rattle.frz_store.specs.Files.{Files, put}
use Rattle.frz_table.specs.Layout.{kind_by, magic_of}
use Rattle.frz_check.proofs.Lemmas.{file_there, one_file}
use Rattle.frz_atlas.specs.Links.{value_over}
use Rattle.frz_atlas.proofs.Lemmas.{over_small}
use Rattle.frz_answer.specs.declared.status.Status.TheVariants.{Success}
use Rattle.frz_answer.specs.Answers.{Answer, says, SomeAnswer}
use Rattle.frz_answer.specs.Lawful.{HasOneAnswer}
use Rattle.frz_prelude.specs.Replies.{built_line}
use Rattle.frz_prelude.specs.RulesFiles.{rules_held}
use Rattle.frz_prelude.specs.declared.refused.Refused.{Refused as Refusal}
use Rattle.frz_atlas.specs.Behind.{TableBytes, backs_in}
use Rattle.frz_atlas.specs.FileOver.{IsFileOver, leans_on}
use Rattle.frz_atlas_prelude.specs.RulesRefusals.{Refuses, of_back, of_rules}
use Rattle.frz_atlas_prelude.specs.Tables.{AreTablesIn}
use Rattle.frz_atlas_prelude.proofs.Lemmas.{held_rules, not_refused, one_refusal, one_tables, some_answer}
use Rattle.frz_commands_atlas.specs.Building.{IsBuiltAt, MakesAtlas, made, no_back, no_rules}

-- there is one file over tables, and only one
pub file_over : (text : List ℕ) (lines : RuleLines) (tables : List TableBytes)
    → rules_of text ≡ Ok lines → (bytes : List ℕ) × IsFileOver text lines (backs_in tables) bytes
file_over text lines tables read =
    let backs = backs_in tables in
    let value = value_over (leans_on backs) lines backs in
    file_there lines value
    (table_there lines value (over_small (leans_on backs) lines backs (text_sound text lines read)))
    (magic_of (kind_by (leans_on backs))) text

one_over : (text : List ℕ) (lines : RuleLines) (tables : List TableBytes) (bytes others : List ℕ)
    → IsFileOver text lines (backs_in tables) bytes
    → IsFileOver text lines (backs_in tables) others → bytes ≡ others
one_over text lines tables bytes others one other =
    let backs = backs_in tables in
    let value = value_over (leans_on backs) lines backs in
    one_file lines value (table_one lines value) (magic_of (kind_by (leans_on backs))) text bytes
    others one other

module _ (rules table : List ℕ) (behind : List (List ℕ)) (m : Files) where
  abbrev helds : List (Option (List ℕ))
  helds = map m behind

  -- there is an answer
  over_exact : (text : List ℕ) (lines : RuleLines) (tables : List TableBytes) → m rules ≡ Some text
      → rules_of text ≡ Ok lines → AreTablesIn helds tables
      → SomeAnswer (λ a. IsBuiltAt rules table behind m a)
  over_exact text lines tables there accepted exact =
      let over = file_over text lines tables accepted in record {
        a = says Success (built_line (size_of lines.groups)) (put m table over.0);
        answer = made (record {
          text = text;
          there = there;
          lines = lines;
          accepted = accepted;
          tables = tables;
          behind_it = exact;
          bytes = over.0;
          one_file = over.1;
          told = refl;
        });
        text = λ e. cc;
      }

  pub some_build : SomeAnswer (λ a. IsBuiltAt rules table behind m a)
  some_build =
      some_answer rules behind m (λ a. IsBuiltAt rules table behind m a) (λ a h. no_rules h)
      (λ a h. no_back h) over_exact

  -- and only one
  read_made : (a : Answer) → (h : MakesAtlas rules table behind m a)
      → rules_held (m rules) ≡ Ok h.lines
  read_made a h = held_rules (m rules) h.text h.lines h.there h.accepted

  module _ (a b : Answer) (h : MakesAtlas rules table behind m a)
      (k : MakesAtlas rules table behind m b) where
    same_text : k.text ≡ h.text
    same_text = (let e : Some k.text ≡ Some h.text = sym k.there ∙ h.there in cc)

    same_lines : k.lines ≡ h.lines
    same_lines =
        (let e : ◌≡◌ {A = Result RuleLines Refusal} (Ok k.lines) (Ok h.lines) = sym (read_made b k)
        ∙ read_made a h in cc)

    same_tables : k.tables ≡ h.tables
    same_tables = one_tables [] helds h.tables k.tables h.behind_it.there k.behind_it.there
        h.behind_it.exact k.behind_it.exact

    same_bytes : k.bytes ≡ h.bytes
    same_bytes = one_over h.text h.lines h.tables k.bytes h.bytes
        (subst (λ (l : List TableBytes). IsFileOver h.text h.lines (backs_in l) k.bytes) same_tables
        (subst (λ (r : RuleLines). IsFileOver h.text r (backs_in k.tables) k.bytes) same_lines
        (subst (λ (t : List ℕ). IsFileOver t k.lines (backs_in k.tables) k.bytes) same_text
        k.one_file)))
        h.one_file

    same_made : b ≡ a
    same_made = k.told
        ∙ ap (λ (r : RuleLines). says Success (built_line (size_of r.groups)) (put m table k.bytes))
        same_lines
        ∙ ap (λ (l : List ℕ). says Success (built_line (size_of h.lines.groups)) (put m table l))
        same_bytes ∙ sym h.told

  made_is_not_refused : (a b : Answer) → MakesAtlas rules table behind m a
      → Refuses rules behind m b → ⊥
  made_is_not_refused a b h k =
      not_refused rules behind m h.text h.lines h.tables b h.there h.accepted h.behind_it k

  one_build : (a b : Answer) → IsBuiltAt rules table behind m a → IsBuiltAt rules table behind m b
      → b ≡ a
  one_build a b (no_rules h) (no_rules k) = one_refusal rules behind m a b (of_rules h) (of_rules k)
  one_build a b (no_rules h) (no_back k) = one_refusal rules behind m a b (of_rules h) (of_back k)
  one_build a b (no_rules h) (made k) = absurd (made_is_not_refused b a k (of_rules h))
  one_build a b (no_back h) (no_rules k) = one_refusal rules behind m a b (of_back h) (of_rules k)
  one_build a b (no_back h) (no_back k) = one_refusal rules behind m a b (of_back h) (of_back k)
  one_build a b (no_back h) (made k) = absurd (made_is_not_refused b a k (of_back h))
  one_build a b (made h) (no_rules k) = absurd (made_is_not_refused a b h (of_rules k))
  one_build a b (made h) (no_back k) = absurd (made_is_not_refused a b h (of_back k))
  one_build a b (made h) (made k) = same_made a b h k

  pub one_built : HasOneAnswer (λ a. IsBuiltAt rules table behind m a)
  one_built = (some_build.a, some_build.answer, λ b h. one_build some_build.a b some_build.answer h)
