-- How a command ends at a fault of the rules, of a table or of one of the tables behind it.
use Rattle.std.specs.Prelude.{◌≡◌, ◌<◌, ⊤}
use Rattle.frz_store.specs.Told.{SinkTold}
use Rattle.frz_answer.specs.declared.end.End.{End}
use Rattle.frz_answer.specs.declared.end.End.TheVariants.{Stopped}
use Rattle.frz_answer.specs.declared.fault.Fault.TheVariants as faults
use Rattle.frz_answer.specs.Ends.{Said}
use Rattle.frz_atlas.specs.declared.fault.AtlasFault.{AtlasFault}
use Rattle.frz_atlas.specs.declared.fault.AtlasFault.TheVariants.{Rules, Table, Back, Failed, NoMemory}
use Rattle.frz_prelude.specs.Refusals.{refusal_line, status_of}
use Rattle.frz_prelude.specs.declared.refused.Refused.TheVariants as refusals
use Rattle.frz_atlas_prelude.specs.declared.names.TheConstants.{MOST_BACKS}
use Rattle.frz_atlas_prelude.specs.BackLines.{back_line, back_status}

-- the place of a refused table is below the most tables that a command takes
abbrev pub HasSmallPlace : AtlasFault → Type 0
HasSmallPlace (Back place fault) = place < MOST_BACKS
HasSmallPlace fault = ⊤

-- a refusal is told in its line; at a fault of the store or of memory nothing is written here
abbrev pub EndsAt : AtlasFault → End → SinkTold → SinkTold → Type 0
EndsAt (Rules fault) end old new =
    Said (status_of (refusals.Rules fault)) (refusal_line (refusals.Rules fault)) end old new
EndsAt (Table fault) end old new =
    Said (status_of (refusals.Table fault)) (refusal_line (refusals.Table fault)) end old new
EndsAt (Back place fault) end old new = Said (back_status fault) (back_line place fault) end old new
EndsAt Failed end old new = (end ≡ Stopped faults.Store) × (new ≡ old)
EndsAt NoMemory end old new = (end ≡ Stopped faults.NoMemory) × (new ≡ old)
