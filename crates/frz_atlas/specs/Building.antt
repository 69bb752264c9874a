-- How the table of a text over several others is built, by what the names may hold.
use Rattle.std.specs.Prelude.{◌≡◌, ◌⊎◌, ◌≤◌, ◌+◌, ◌*◌, ℕ, true, List, [], sum_by, Option, Result, Ok, Err}
use Rattle.frz_rules.specs.Text.{may_want_memory, rules_of}
use Rattle.frz_rules.specs.declared.fault.RulesFault.{RulesFault}
use Rattle.frz_sets.specs.Sets.{size_of}
use Rattle.frz_sets.specs.Views.{RuleLines}
use Rattle.frz_store.specs.Outside.{Rose}
use Rattle.frz_store.specs.Told.{StoreTold, StoreFine, StoreQuiet}
use Rattle.frz_store.specs.Writes.{Wrote, WrotePart}
pub use Rattle.frz_backs.specs.Building.{writing_calls}
use Rattle.frz_atlas.specs.Behind.{AreJudged, IsRefusedAt, TableBytes, backs_in}
use Rattle.frz_atlas.specs.Costs.{bytes_of, calls_of, steps_of}
use Rattle.frz_atlas.specs.FileOver.{IsFileOver}
use Rattle.frz_atlas.specs.Held.{MayHoldAll, all_held}
use Rattle.frz_atlas.specs.declared.fault.AtlasFault.{AtlasFault}
use Rattle.frz_atlas.specs.declared.fault.AtlasFault.TheVariants.{Rules, Table, Back, Failed, NoMemory}

-- the size of the set of rules that were read, and 0 where the text is refused
abbrev pub size_by : Result RuleLines RulesFault → ℕ
size_by (Ok rules) = size_of rules.groups
size_by (Err fault) = 0

-- `count` where the text is accepted, and else 0
abbrev pub if_read : Result RuleLines RulesFault → ℕ → ℕ
if_read (Ok rules) count = count
if_read (Err fault) count = 0

-- no more is spent than checking the tables behind, finding the codes and writing the file costs,
-- and nothing where the text is refused
pub record WithinBuilding (text : List ℕ) (behind : List (Option (List ℕ))) (old new : StoreTold)
    (steps_before steps_now : ℕ) : Type 0 where
  pub steps : steps_now ≤ steps_before + if_read (rules_of text)
      (sum_by steps_of behind + 4 * size_by (rules_of text))
  pub asked : new.asked ≤ old.asked + if_read (rules_of text) (sum_by bytes_of behind)
  pub calls : new.calls ≤ old.calls + if_read (rules_of text)
      (sum_by calls_of behind + writing_calls (size_by (rules_of text)))

-- the text is accepted. The names behind may hold tables that are exact, each over those before it,
-- before the call and afterwards, and the one file of the text over them was written
pub record BuildsAtlas (text : List ℕ) (behind : List (List ℕ)) (name : List ℕ)
    (old new : StoreTold) (steps_before steps_now : ℕ) (size : ℕ) : Type 0 where
  pub rules : RuleLines
  pub accepted : rules_of text ≡ Ok rules
  pub tables : List TableBytes
  pub may_all : MayHoldAll old.files behind (all_held tables)
  pub exact : AreJudged tables
  pub bytes : List ℕ
  pub one_file : IsFileOver text rules (backs_in tables) bytes
  pub written : Wrote name bytes old new
  pub fine : StoreFine old new
  pub may_after : MayHoldAll new.files behind (all_held tables)
  pub sized : size ≡ size_of rules.groups
  pub within : WithinBuilding text (all_held tables) old new steps_before steps_now

-- the text is accepted
abbrev pub IsAccepted : List ℕ → Type 0
IsAccepted text = (rules : RuleLines) × (rules_of text ≡ Ok rules)

-- the text is accepted and the tables behind are exact. The name holds what it held, or a beginning
-- of the one file of the text over them
pub record FailsWriting (text name : List ℕ) (behind : List (Option (List ℕ)))
    (old new : StoreTold) : Type 0 where
  pub rules : RuleLines
  pub accepted : rules_of text ≡ Ok rules
  pub tables : List TableBytes
  pub there : behind ≡ all_held tables
  pub exact : AreJudged tables
  pub bytes : List ℕ
  pub one_file : IsFileOver text rules (backs_in tables) bytes
  pub part : WrotePart name bytes old new

-- why no table was built. The text is refused, and the store was not called; or a table behind is
-- refused; or the store failed, in reading or in writing; or memory ran out, and nothing was
-- written
abbrev pub IsNotBuilt : (text name : List ℕ) → List (Option (List ℕ)) → StoreTold → StoreTold
    → AtlasFault → Type 0
IsNotBuilt text name behind old new (Rules fault) =
    (rules_of text ≡ Err fault) × (new ≡ old)
IsNotBuilt text name behind old new (Back place fault) =
    IsAccepted text × IsRefusedAt [] behind place fault × StoreQuiet old new
IsNotBuilt text name behind old new Failed =
    Rose old.faults new.faults
    × ((IsAccepted text × StoreQuiet old new) ⊎ FailsWriting text name behind old new)
IsNotBuilt text name behind old new NoMemory =
    ((may_want_memory text ≡ true) ⊎ IsAccepted text) × StoreQuiet old new
IsNotBuilt text name behind old new (Table fault) = ⊥

-- the names behind may hold what leads to this fault
pub record RefusesToBuild (text : List ℕ) (behind : List (List ℕ)) (name : List ℕ)
    (old new : StoreTold) (steps_before steps_now : ℕ) (fault : AtlasFault) : Type 0 where
  pub helds : List (Option (List ℕ))
  pub may_all : MayHoldAll old.files behind helds
  pub refuses : IsNotBuilt text name helds old new fault
  pub within : WithinBuilding text helds old new steps_before steps_now
