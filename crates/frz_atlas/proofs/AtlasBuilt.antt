-- How a table over several others is built.
use Rattle.std.specs.Prelude.{Contains, map, sum_by}
use Rattle.std.proofs.Common.{◌≡◌, inl, inr, refl, sym, ap, subst, ◌∙◌, ℕ, ◌+◌, ◌*◌, ◌≤◌, true, List, Option, Result, Ok, Err, arith}
use Rattle.frz_rules.specs.Text.{Fails, may_want_memory, rules_of}
use Rattle.frz_rules.specs.declared.fault.RulesError.{RulesError}
use Rattle.frz_rules.specs.declared.fault.RulesError.TheVariants as reading
use Rattle.frz_rules.specs.declared.fault.RulesFault.{RulesFault}
use Rattle.frz_sets.specs.Sets.{size_of}
use Rattle.frz_sets.specs.Views.{RuleLines}
use Rattle.frz_store.specs.Outside.{Rose}
use Rattle.frz_store.specs.Told.{StoreTold, StoreFine, StoreQuiet}
use Rattle.frz_store.specs.Writes.{Written}
use Rattle.frz_store.specs.declared.outside.StoreFault.{StoreFault}
use Rattle.frz_store.specs.declared.outside.StoreFault.TheVariants as store
use Rattle.frz_table.specs.Layout.{kind_by, magic_of}
use Rattle.frz_backs.specs.Building.{Builds, writing_calls}
use Rattle.frz_backs.proofs.Lemmas.{builds_after, costs_added, costs_kept, quiet_same}
use Rattle.frz_backs.specs.Books.{Back}
use Rattle.frz_backs.specs.BackTable.{BackTable}
use Rattle.frz_backs.specs.Links.{Link, backs_of, value_over}
use Rattle.frz_backs.specs.Loaded.{link_loaded}
use Rattle.frz_atlas.specs.Behind.{backs_in}
use Rattle.frz_atlas.specs.Building.{BuildsAtlas, IsNotBuilt, RefusesToBuild, WithinBuilding, if_read, size_by}
use Rattle.frz_atlas.specs.Causes.{HasAtlasCause, fault_of, rules_fault}
use Rattle.frz_atlas.specs.Costs.{WithinAll, bytes_of, calls_of, steps_of}
use Rattle.frz_atlas.specs.FileOver.{leans_on}
use Rattle.frz_atlas.specs.Held.{all_held}
use Rattle.frz_atlas.specs.Opening.{IsOneRefused, OpensAll, RefusesAll}
use Rattle.frz_atlas.specs.declared.fault.AtlasFault.{AtlasFault}
use Rattle.frz_atlas.specs.declared.fault.AtlasFault.TheVariants as atlas
use Rattle.frz_atlas.proofs.Several.{may_hold_some, some_helds}
use Rattle.frz_atlas.proofs.ExactTables.{kept_backs}
use Rattle.frz_atlas.proofs.StillHeld.{all_still_held}

-- what was spent is within the costs where the text is accepted
within_building : (text : List ℕ) (rules : RuleLines) (helds : List (Option (List ℕ)))
    (old mid new : StoreTold) (steps_before steps_then steps_now : ℕ) → rules_of text ≡ Ok rules
    → WithinAll helds old mid steps_before steps_then
    → steps_now ≤ steps_then + 4 * size_of rules.groups → new.asked ≤ mid.asked
    → new.calls ≤ mid.calls + writing_calls (size_of rules.groups)
    → WithinBuilding text helds old new steps_before steps_now
within_building text rules helds old mid new steps_before steps_then steps_now accepted h steps
    asked calls =
    let size = size_of rules.groups in
    record {
      steps = costs_added steps_before steps_then steps_now (sum_by steps_of helds) (4 * size) _
          (ap (λ (x : Result RuleLines RulesFault). if_read x
          (sum_by steps_of helds + 4 * size_by x)) accepted) h.steps steps;
      asked = subst (λ (x : Result RuleLines RulesFault). new.asked
          ≤ old.asked + if_read x (sum_by bytes_of helds)) (sym accepted)
          (costs_kept old.asked mid.asked new.asked (sum_by bytes_of helds) h.asked asked);
      calls = costs_added old.calls mid.calls new.calls (sum_by calls_of helds)
          (writing_calls size) _
          (ap (λ (x : Result RuleLines RulesFault). if_read x
          (sum_by calls_of helds + writing_calls (size_by x))) accepted) h.calls calls;
    }

-- the one file of the text over these tables was written, or not
abbrev pub BuildsOver : List ℕ → RuleLines → List Back → List ℕ → Result ℕ StoreFault → StoreTold
    → StoreTold → Type 0
BuildsOver text rules backs name result old new =
    Builds (magic_of (kind_by (leans_on backs))) text rules (value_over (leans_on backs) rules backs)
    name result old new

module _ (text : List ℕ) (behind : List (List ℕ)) (name : List ℕ) (rules : RuleLines)
    (accepted : rules_of text ≡ Ok rules) (backs : List BackTable) (old mid new : StoreTold)
    (steps_before steps_then steps_now : ℕ) (quiet : StoreQuiet old mid) (fine : StoreFine old mid)
    (opens : OpensAll behind backs old mid steps_before steps_then)
    (steps : steps_now ≤ steps_then + 4 * size_of rules.groups) (asked : new.asked ≡ mid.asked)
    (calls : new.calls ≤ mid.calls + writing_calls (size_of rules.groups)) where
  abbrev links : List Link
  links = map link_loaded backs

  within_exact : WithinBuilding text (all_held opens.tables) old new steps_before steps_now
  within_exact =
      within_building text rules (all_held opens.tables) old mid new steps_before steps_then
      steps_now accepted opens.within steps (omega (arith, asked)) calls

  -- what was written since the tables were asked for is of the one file over them
  over_tables : (used : List Back) (result : Result ℕ StoreFault) → used ≡ backs_of links
      → BuildsOver text rules used name result mid new
      → BuildsOver text rules (backs_in opens.tables) name result old new
  over_tables used result same h =
      let backs : List Back = backs_in opens.tables in
      builds_after (magic_of (kind_by (leans_on backs))) text rules
      (value_over (leans_on backs) rules backs) _ name result old mid new refl quiet fine
      (subst (λ (l : List Back). BuildsOver text rules l name result mid new)
      (same ∙ kept_backs links opens.tables opens.keeps) h)

  pub atlas_built : (Contains behind name → ⊥) → (size : ℕ) → size ≡ size_of rules.groups
      → (used : List Back) → used ≡ backs_of links
      → BuildsOver text rules used name (Ok size) mid new
      → BuildsAtlas text behind name old new steps_before steps_now size
  atlas_built apart size sized used same b =
      let h = over_tables used (Ok size) same b in record {
        rules = rules;
        accepted = accepted;
        tables = opens.tables;
        may_all = opens.may;
        exact = opens.exact;
        bytes = h.bytes;
        one_file = h.one_file;
        written = h.written.0;
        fine = h.written.1;
        may_after = all_still_held name h.bytes behind (all_held opens.tables) apart old.files
            new.files h.written.0.files opens.may;
        sized = sized;
        within = within_exact;
      }

  not_written : (fault : StoreFault)
      → BuildsOver text rules (backs_in opens.tables) name
      (Err fault) old new
      → IsNotBuilt text name (all_held opens.tables) old new (fault_of fault)
  not_written store.Failed h = (
    h.written.1,
    inr (record {
      rules = rules;
      accepted = accepted;
      tables = opens.tables;
      there = refl;
      exact = opens.exact;
      bytes = h.bytes;
      one_file = h.one_file;
      part = h.written.0;
    }),
  )
  not_written store.NoMemory h = (inr (rules, accepted), h.written)

  pub not_built : (fault : StoreFault) (used : List Back) → used ≡ backs_of links
      → BuildsOver text rules used name (Err fault) mid new
      → RefusesToBuild text behind name old new steps_before steps_now (fault_of fault)
  not_built fault used same h = record {
    helds = all_held opens.tables;
    may_all = opens.may;
    refuses = not_written fault (over_tables used (Err fault) same h);
    within = within_exact;
  }

-- the cause of a failure in writing, and of none
pub write_cause : (name bytes : List ℕ) (fault : StoreFault) (old mid new : StoreTold)
    → StoreFine old mid → Written {T = ℕ} name bytes (Err fault) mid new
    → HasAtlasCause {T = ℕ} (Err (fault_of fault)) old new
write_cause name bytes store.Failed old mid new fine h =
    subst (λ (n : ℕ). Rose n new.faults) fine.faults h.1
write_cause name bytes store.NoMemory old mid new fine h = tt

-- the text was not read
pub not_read : (text : List ℕ) (behind : List (List ℕ)) (name : List ℕ) (old : StoreTold)
    (steps : ℕ) (fault : RulesError) → Fails fault (rules_of text)
    → (fault ≡ reading.NoMemory → may_want_memory text ≡ true)
    → RefusesToBuild text behind name old old steps steps (rules_fault fault)
not_read text behind name old steps fault fails memory =
    let others = some_helds old.files behind in record {
      helds = others;
      may_all = may_hold_some old.files behind;
      refuses = by_fault fault fails memory others;
      within = record { steps = omega arith; asked = omega arith; calls = omega arith };
    }
  where
    by_fault : (fault : RulesError) → Fails fault (rules_of text)
        → (fault ≡ reading.NoMemory → may_want_memory text ≡ true)
        → (helds : List (Option (List ℕ)))
        → IsNotBuilt text name helds old old (rules_fault fault)
    by_fault (reading.Bad f) fails memory helds = (fails, refl)
    by_fault reading.NoMemory fails memory helds = (inl (memory refl), quiet_same old)

-- one of the tables behind was refused
module _ (text : List ℕ) (behind : List (List ℕ)) (name : List ℕ) (rules : RuleLines)
    (accepted : rules_of text ≡ Ok rules) (old new : StoreTold) (steps_before steps_now : ℕ)
    (quiet : StoreQuiet old new) where
  not_given : (helds : List (Option (List ℕ))) (fault : AtlasFault) → IsOneRefused helds fault
      → HasAtlasCause {T = ℕ} (Err fault) old new → IsNotBuilt text name helds old new fault
  not_given helds (atlas.Back place fault) h cause = ((rules, accepted), h, quiet)
  not_given helds atlas.Failed h cause = (cause, inl ((rules, accepted), quiet))
  not_given helds atlas.NoMemory h cause = (inr (rules, accepted), quiet)
  not_given helds (atlas.Rules fault) h cause = absurd h
  not_given helds (atlas.Table fault) h cause = absurd h

  pub none_behind : (fault : AtlasFault) → HasAtlasCause {T = ℕ} (Err fault) old new
      → RefusesAll behind old new steps_before steps_now fault
      → RefusesToBuild text behind name old new steps_before steps_now fault
  none_behind fault cause h = record {
    helds = h.helds;
    may_all = h.may;
    refuses = not_given h.helds fault h.refuses cause;
    within =
        within_building text rules h.helds old new new steps_before steps_now steps_now accepted
        h.within (omega arith) (omega arith) (omega arith);
  }
