-- What is found of RULES and of the tables behind, by what the names may hold.
use Rattle.std.specs.Prelude.{◌≡◌, ◌≤◌, ◌+◌, ◌*◌, ℕ, List, map, sum_by, Option}
use Rattle.frz_sets.specs.Sets.{size_of}
use Rattle.frz_sets.specs.Views.{RuleLines}
use Rattle.frz_store.specs.Told.{StoreTold}
use Rattle.frz_atlas.specs.Behind.{AreJudged, TableBytes}
use Rattle.frz_atlas.specs.Costs.{bytes_of, calls_of, steps_of}
use Rattle.frz_atlas.specs.Held.{MayHoldAll, all_held}
use Rattle.frz_atlas.specs.Opening.{IsOneRefused}
use Rattle.frz_atlas.specs.declared.fault.AtlasFault.{AtlasFault}
use Rattle.frz_commands_premises.specs.declared.line.Line.{Line}
use Rattle.frz_commands_premises.specs.PremiseLines.{premise_lines, text_link_of}

-- no more is spent than checking the tables costs, one more step for each of their numbers, and two
-- steps for each number of RULES
pub record WithinFinding (rules : RuleLines) (helds : List (Option (List ℕ)))
    (old new : StoreTold) (steps_before steps_now : ℕ) : Type 0 where
  pub steps : steps_now ≤
      steps_before + (2 * sum_by steps_of helds + 2 * size_of rules.groups)
  pub asked : new.asked ≤ old.asked + sum_by bytes_of helds
  pub calls : new.calls ≤ old.calls + sum_by calls_of helds

-- the names may hold tables that are exact, each over those before it, and these are the lines of
-- them and of the rules of the text
pub record FindsLines (text : List ℕ) (rules : RuleLines) (behind : List (List ℕ))
    (old new : StoreTold) (steps_before steps_now : ℕ) (lines : List Line) : Type 0 where
  pub tables : List TableBytes
  pub may_all : MayHoldAll old.files behind (all_held tables)
  pub exact : AreJudged tables
  pub told : lines ≡ premise_lines text rules (map text_link_of tables)
  pub within : WithinFinding rules (all_held tables) old new steps_before steps_now

-- what one of the names may hold is refused for this reason, and those before it may hold exact
-- tables; nothing is said where the store failed or memory ran out
pub record FindsNone (rules : RuleLines) (behind : List (List ℕ)) (old new : StoreTold)
    (steps_before steps_now : ℕ) (fault : AtlasFault) : Type 0 where
  pub helds : List (Option (List ℕ))
  pub may_all : MayHoldAll old.files behind helds
  pub refuses : IsOneRefused helds fault
  pub within : WithinFinding rules helds old new steps_before steps_now
