-- The place of a table that is refused is below the most that stand behind another.
use Rattle.std.proofs.Common.{◌<◌, ◌≤◌, ℕ, List, [], length, Option, Result, arith}
use Rattle.frz_store.specs.Files.{Files}
use Rattle.frz_store.specs.Told.{StoreTold}
use Rattle.frz_table.specs.Opening.{Contents}
use Rattle.frz_table.specs.declared.fault.TableFault.{TableFault}
use Rattle.frz_atlas.specs.Behind.{IsRefusedAt}
use Rattle.frz_atlas.specs.Held.{MayHoldAll}
use Rattle.frz_atlas.specs.Loading.{IsOneUnopened, RefusesToLoad, opened_own}
use Rattle.frz_atlas.specs.Opening.{IsOneRefused, RefusesAll}
use Rattle.frz_atlas.specs.Reading.{IsUnopened, RefusesToRead}
use Rattle.frz_atlas.specs.declared.fault.AtlasFault.{AtlasFault}
use Rattle.frz_atlas.specs.declared.fault.AtlasFault.TheVariants.{Rules, Table, Back, Failed, NoMemory}
use Rattle.frz_atlas.specs.declared.fault.BackFault.{BackFault}
use Rattle.frz_atlas.specs.declared.fault.BackFault.TheVariants.{Refused, Wrong}
use Rattle.frz_atlas.proofs.Lemmas.{unopened_below}
use Rattle.frz_atlas_prelude.specs.declared.names.TheConstants.{MOST_BACKS}
use Rattle.frz_atlas_prelude.specs.Ending.{HasSmallPlace}
use Rattle.frz_atlas_prelude.proofs.HeldNames.{as_many_as_names, place_below}

module _ (behind : List (List ℕ)) (few : length behind ≤ MOST_BACKS) (told : Option Files)
    (helds : List (Option (List ℕ))) (may : MayHoldAll told behind helds) where
  -- of tables that are checked
  pub place_refused : (place : ℕ) (fault : BackFault) → IsRefusedAt [] helds place fault
      → place < MOST_BACKS
  place_refused place fault h =
      let below = place_below [] helds place fault h in
      let many = as_many_as_names told behind helds may in omega (arith, below, many, few)

  one_refused : (fault : AtlasFault) → IsOneRefused helds fault → HasSmallPlace fault
  one_refused (Rules fault) h = tt
  one_refused (Table fault) h = tt
  one_refused (Back place fault) h = place_refused place fault h
  one_refused Failed h = tt
  one_refused NoMemory h = tt

  -- of tables that are loaded without a check
  one_unopened : (fault : AtlasFault) → IsOneUnopened helds fault → HasSmallPlace fault
  one_unopened (Rules fault) h = tt
  one_unopened (Table fault) h = tt
  one_unopened (Back place (Refused fault)) h =
      let below = unopened_below helds place fault h in
      let many = as_many_as_names told behind helds may in omega (arith, below, many, few)
  one_unopened (Back place (Wrong wrong)) h = absurd h
  one_unopened Failed h = tt
  one_unopened NoMemory h = tt

  -- the same, behind a table that is opened in this way
  pub unopened_behind : (opened_as : Option (List ℕ) → Result Contents TableFault)
      (held : Option (List ℕ)) (fault : AtlasFault) → IsUnopened opened_as held helds fault
      → HasSmallPlace fault
  unopened_behind opened_as held (Rules fault) h = tt
  unopened_behind opened_as held (Table fault) h = tt
  unopened_behind opened_as held (Back place (Refused fault)) h =
      one_unopened (Back place (Refused fault)) h.1
  unopened_behind opened_as held (Back place (Wrong wrong)) h = absurd h
  unopened_behind opened_as held Failed h = tt
  unopened_behind opened_as held NoMemory h = tt

module _ (behind : List (List ℕ)) (few : length behind ≤ MOST_BACKS) (old new : StoreTold)
    (fault : AtlasFault) where
  pub small_refused : (before now : ℕ) → RefusesAll behind old new before now fault
      → HasSmallPlace fault
  small_refused before now h = one_refused behind few old.files h.helds h.may fault h.refuses

  pub small_unopened : RefusesToLoad behind old new fault → HasSmallPlace fault
  small_unopened h = one_unopened behind few old.files h.helds h.may fault h.refuses

  pub small_unread : (table : List ℕ) → RefusesToRead table behind old new fault
      → HasSmallPlace fault
  small_unread table h =
      unopened_behind behind few old.files h.helds h.may_all opened_own h.held
      fault h.refuses
