-- What `chain` answers, by what was read under the names RULES and BACK.
use Rattle.std.proofs.Common.{◌≡◌, refl, sym, ap, subst, ◌∙◌, ℕ, ◌+◌, ◌*◌, ◌≤◌, true, List, Result, Ok, arith}
use Rattle.frz_store.specs.Files.{Files}
use Rattle.frz_sets.specs.Sets.{size_of}
use Rattle.frz_sets.specs.Views.{RuleLines}
use Rattle.frz_answer.specs.Jobs.{WithinCosts}
use Rattle.frz_answer.specs.World.{World, Agrees, spent}
use Rattle.frz_answer.proofs.Lemmas.{Stages}
use Rattle.frz_chain.specs.Building.{writing_calls}
use Rattle.frz_chain.specs.ExactBacks.{if_exact, is_exact}
use Rattle.frz_chain.specs.FileOn.{loaded_back}
use Rattle.frz_chain.proofs.Lemmas.{all_if_exact}
use Rattle.frz_prelude.specs.RulesFiles.{or_fault, rules_held, size_by}
use Rattle.frz_prelude.specs.declared.refused.Refused.{Refused}
use Rattle.frz_commands_chain.specs.Backs.{IsBackIn}
use Rattle.frz_commands_chain.specs.Chaining.{chain_costs, chaining_at, chaining_by, made, writing_by}
use Rattle.frz_commands_chain.specs.Reading.{AreBothRead, reading_bytes, reading_calls, reading_steps}
use Rattle.frz_commands_chain.specs.declared.reading.BothRead.{BothRead}
use Rattle.frz_commands_chain.proofs.BackOnce.{back_exact}
use Rattle.frz_commands_chain.proofs.ChainAt.{found_both}

module _ (rules back table : List ℕ) (both : BothRead) (files : Files) (input : List ℕ)
    (old mid new : World)
    (h : AreBothRead rules back (Ok both) old.store mid.store old.steps mid.steps)
    (agrees : Agrees old files input) where
  read_rules : (m : Files) → m ≡ h.files → rules_held (m rules) ≡ Ok both.read.rules
  read_rules m e =
      ap (λ (f : Files). rules_held (f rules)) e ∙ ap rules_held h.due.0.0 ∙ ap or_fault h.due.0.1

  exact_there : (m : Files) → m ≡ h.files → is_exact (m back) ≡ true
  exact_there m e = ap (λ (f : Files). is_exact (f back)) e ∙ back_exact (h.files back)
      (loaded_back both.back) h.due.1

  abbrev size : ℕ
  size = size_of both.read.rules.groups

  all_spent : (m : Files) → m ≡ h.files → new.steps ≤ mid.steps + 4 * size
      → new.store.calls ≤ mid.store.calls + writing_calls size
      → new.store.asked ≤ mid.store.asked + 0 → WithinCosts (chain_costs (m rules) (m back))
      (spent old) (spent new)
  all_spent m e steps calls asked =
      let all = all_if_exact (m back) (exact_there m e) in
      let due = all (4 * size_by (rules_held (m rules)))
      ∙ ap (λ (x : Result RuleLines Refused). 4 * size_by x) (read_rules m e) in
      let old_steps : mid.steps ≤ old.steps + reading_steps (m rules) (m back) =
      subst (λ (f : Files). mid.steps ≤ old.steps + reading_steps (f rules) (f back))
      (sym e) h.steps in
      let old_asked : mid.store.asked ≤ old.store.asked + reading_bytes (m rules) (m back) =
      subst (λ (f : Files). mid.store.asked ≤ old.store.asked + reading_bytes (f rules) (f back))
      (sym e) h.asked in
      let old_calls : mid.store.calls ≤ old.store.calls + reading_calls (m rules) (m back) =
      subst (λ (f : Files). mid.store.calls ≤ old.store.calls + reading_calls (f rules) (f back))
      (sym e) h.calls in
      let writing : if_exact (m back) (writing_by (rules_held (m rules))) ≡ writing_calls size =
      all (writing_by (rules_held (m rules))) ∙ ap writing_by (read_rules m e) in
      record {
        steps = omega (arith, steps, old_steps, due);
        calls = omega (arith, calls, old_calls, writing);
        asked = omega (arith, asked, old_asked);
      }

  pub chain_stages : Stages (chaining_by both.read.text.items both.read.rules
      (loaded_back both.back)
      table) (chaining_at rules back table) files input old mid new
  chain_stages = record {
    found = found_both rules back table (Ok both) files input old mid h agrees;
    answers = λ m i a fits same untaken built.
        let e : m ≡ h.files = same refl in
        made (record {
          text = both.read.text.items;
          there = ap (λ (f : Files). f rules) e ∙ h.due.0.0;
          lines = both.read.rules;
          accepted = h.due.0.1;
          behind = loaded_back both.back;
          back_there =
              subst (λ (f : Files). IsBackIn (f back) (loaded_back both.back)) (sym e) h.due.1;
          made = built;
        });
    costs = λ m i a fits same untaken built costs. all_spent m (same refl) costs.steps costs.calls
        costs.asked;
  }
