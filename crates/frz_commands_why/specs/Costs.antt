-- What `why` may cost: what opening and loading TABLE and the BACKs costs and, at a position of
-- TABLE's set, the steps of what is told there.
use Rattle.std.specs.Prelude.{ℕ, List, [], length, Option, Some, Result, Ok, Err, if◌then◌else◌}
use Rattle.std.specs.Option.{unwrap_or}
use Rattle.frz_board.specs.declared.man.Colour.{Colour}
use Rattle.frz_board.specs.Boards.{Board}
use Rattle.frz_board.specs.Men.{other_of}
use Rattle.frz_fide.specs.Listing.{legal_moves_of}
use Rattle.frz_game.specs.Numbers.{is_member}
use Rattle.frz_table.specs.declared.fault.TableFault.{TableFault}
use Rattle.frz_table.specs.Opening.{Contents}
use Rattle.frz_atlas_prelude.specs.Loading.{opened_own}
use Rattle.frz_answer.specs.Jobs.{Costs}
use Rattle.frz_atlas_prelude.specs.Costs.{loading_bytes, loading_calls}
use Rattle.frz_commands_why.specs.Telling.{telling_steps}
use Rattle.frz_commands_why.specs.WhyOf.{code_at}

-- the steps by an open table: none at a position outside its set
abbrev pub steps_in : Contents → (bytes : List ℕ) → Colour → Board → ℕ
steps_in contents bytes side p =
    if is_member contents.rules.groups p
    then telling_steps (code_at contents bytes side p) (code_at contents bytes (other_of side) p)
    (length (legal_moves_of p)) else 0

abbrev pub steps_by : Result Contents TableFault → (bytes : List ℕ) → Colour → Board → ℕ
steps_by (Ok contents) bytes side p = steps_in contents bytes side p
steps_by (Err fault) bytes side p = 0

-- the costs where TABLE holds this, and the BACKs these
abbrev pub why_costs : Colour → Board → Option (List ℕ) → List (Option (List ℕ)) → Costs
why_costs side p held behind = record {
  steps = Some (steps_by (opened_own held) (unwrap_or held []) side p);
  calls = Some (loading_calls held behind);
  asked = Some (loading_bytes held behind);
}
