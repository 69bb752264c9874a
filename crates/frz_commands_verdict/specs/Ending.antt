-- How `verdict` ends at a table that is refused.
use Rattle.std.specs.Prelude.{ℕ, ◌≤◌, ⊤}
use Rattle.frz_store.specs.Told.{SinkTold}
use Rattle.frz_answer.specs.declared.end.End.{End}
use Rattle.frz_answer.specs.Ends.{Said}
use Rattle.frz_atlas.specs.declared.fault.AtlasFault.{AtlasFault}
use Rattle.frz_atlas.specs.declared.fault.AtlasFault.TheVariants.{Back}
use Rattle.frz_atlas_prelude.specs.BackLines.{back_status}
use Rattle.frz_atlas_prelude.specs.Ending.{EndsAt}
use Rattle.frz_commands_verdict.specs.Answers.{fault_line}

-- the place of a table that is refused is that of TABLE at most, behind the BACKs
abbrev pub IsPlaceUpTo : (own : ℕ) → AtlasFault → Type 0
IsPlaceUpTo own (Back place fault) = place ≤ own
IsPlaceUpTo own fault = ⊤

-- a table that is refused is told in its line, by its place
abbrev pub EndsVerdict : (own : ℕ) → AtlasFault → End → SinkTold → SinkTold → Type 0
EndsVerdict own (Back place fault) end old new =
    Said (back_status fault) (fault_line own place fault) end old new
EndsVerdict own fault end old new = EndsAt fault end old new
