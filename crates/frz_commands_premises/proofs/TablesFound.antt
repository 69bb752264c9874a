-- What is found of the tables and of the rules, by what was opened.
use Rattle.std.proofs.Common.{◌≡◌, ◌+◌, ◌*◌, ◌≤◌, ◌∙◌, ℕ, List, Option, ap, arith}
use Rattle.std.specs.Prelude.{map, sum_by}
use Rattle.frz_sets.specs.Sets.{size_of}
use Rattle.frz_sets.specs.Views.{RuleLines}
use Rattle.frz_store.specs.Told.{StoreTold}
use Rattle.frz_atlas.specs.BackTable.{BackTable}
use Rattle.frz_atlas.specs.Costs.{WithinAll, steps_of}
use Rattle.frz_atlas.specs.Held.{all_held}
use Rattle.frz_atlas.specs.Opening.{OpensAll, RefusesAll}
use Rattle.frz_atlas.specs.declared.fault.AtlasFault.{AtlasFault}
use Rattle.frz_atlas.specs.declared.fault.AtlasFault.TheVariants.{NoMemory}
use Rattle.frz_commands_premises.specs.declared.line.Line.{Line}
use Rattle.frz_commands_premises.specs.Finding.{FindsLines, FindsNone, WithinFinding}
use Rattle.frz_commands_premises.specs.PremiseLines.{premise_lines, text_link_loaded}
use Rattle.frz_commands_premises.proofs.ExactTables.{link_size, sizes_checked, sizes_loaded, texts_loaded}

module _ (text : List ℕ) (rules : RuleLines) (behind : List (List ℕ)) (old new : StoreTold)
    (before then now : ℕ) where
  within_more : (helds : List (Option (List ℕ))) (numbers : ℕ) → WithinAll helds old new before then →
      numbers ≤ sum_by steps_of helds → now ≤ then + (numbers + 2 * size_of rules.groups) →
      WithinFinding rules helds old new before now
  within_more helds numbers h few steps = record {
    steps = (let first = h.steps in omega (arith, first, few, steps));
    asked = h.asked;
    calls = h.calls;
  }

  -- one of the tables is refused
  pub refused_first : (fault : AtlasFault) → RefusesAll behind old new before then fault → now ≤ then →
      FindsNone rules behind old new before now fault
  refused_first fault h steps = record {
    helds = h.helds;
    may_all = h.may;
    refuses = h.refuses;
    within = within_more h.helds 0 h.within (omega arith) (omega (arith, steps));
  }

  module _ (backs : List BackTable) (h : OpensAll behind backs old new before then)
      (steps : now ≤ then + (sum_by (λ (back : BackTable). size_of back.table.rules.groups) backs
      + 2 * size_of rules.groups)) where
    sizes_sum_to_steps : sum_by (λ (back : BackTable). size_of back.table.rules.groups) backs
        ≡ sum_by steps_of (all_held h.tables)
    sizes_sum_to_steps = sizes_loaded backs ∙ ap (sum_by link_size) h.keeps
        ∙ sizes_checked h.tables h.exact

    within_opened : WithinFinding rules (all_held h.tables) old new before now
    within_opened =
        within_more (all_held h.tables) _ h.within
        (let same = sizes_sum_to_steps in omega (arith, same)) steps

    -- the lines are those of the tables and of the rules
    pub lines_are_found : (lines : List Line) →
        lines ≡ premise_lines text rules (map text_link_loaded backs) →
        FindsLines text rules behind old new before now lines
    lines_are_found lines told = record {
      tables = h.tables;
      may_all = h.may;
      exact = h.exact;
      told = told
          ∙ ap (premise_lines text rules) (texts_loaded backs h.tables h.keeps h.texts);
      within = within_opened;
    }

    -- memory ran out
    pub memory_wanted : FindsNone rules behind old new before now NoMemory
    memory_wanted = record {
      helds = all_held h.tables;
      may_all = h.may;
      refuses = tt;
      within = within_opened;
    }
