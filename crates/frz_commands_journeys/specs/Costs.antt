-- What `line` and `play` may cost: what loading the tables costs and, at a position of TABLE's set,
-- a step at each number that the journey comes to.
use Rattle.std.specs.Prelude.{ℕ, List, [], Option, Some, Result, Ok, Err, MatchBool}
use Rattle.std.specs.Option.{unwrap_or}
use Rattle.frz_board.specs.Boards.{Board}
use Rattle.frz_index.specs.Membership.{is_member}
use Rattle.frz_table.specs.declared.fault.TableFault.{TableFault}
use Rattle.frz_table.specs.Opening.{Contents, opened, own_format}
use Rattle.frz_atlas_prelude.specs.Behind.{TableBytes}
use Rattle.frz_atlas_prelude.specs.Loading.{opened_all}
use Rattle.frz_answer.specs.World.{Spent}
use Rattle.frz_answer.specs.Jobs.{Costs, WithinCosts}
use Rattle.frz_atlas_prelude.specs.Costs.{loading_bytes, loading_calls}
use Rattle.frz_ways.specs.declared.opponent.Player.{Player}
use Rattle.frz_ways.specs.Reading.{Input}
use Rattle.frz_journeys.specs.Journeys.{Stage}
use Rattle.frz_journeys.specs.Playing.{turns_in}
use Rattle.frz_commands_journeys.specs.JourneyOf.{IsJourneyBy}

-- so many steps, and the calls and bytes of opening and loading TABLE and the BACKs
abbrev pub journey_costs : Option (List ℕ) → List (Option (List ℕ)) → (steps : ℕ) → Costs
journey_costs held behind steps = record {
  steps = Some steps;
  calls = Some (loading_calls held behind);
  asked = Some (loading_bytes held behind);
}

-- how many steps may be made where TABLE and the BACKs open so: at a position of TABLE's set as many
-- as its journey comes to numbers, and none where there is no journey
abbrev pub StepsBy : (within : ℕ → Type 0) → Player → Board → Result Contents TableFault → List ℕ →
    Result (List TableBytes) (ℕ × TableFault) → (heard : List ℕ) → Type 0
StepsBy within player p (Ok contents) bytes (Ok tables) heard =
    MatchBool (is_member contents.rules.groups p)
    ((stages : List Stage) (left : Input)
    → IsJourneyBy player p contents bytes tables heard stages left → within (turns_in stages))
    (within 0)
StepsBy within player p (Ok contents) bytes (Err refused) heard = within 0
StepsBy within player p (Err fault) bytes behind heard = within 0

-- what may be spent by what the names hold
abbrev pub CostsAt : Player → Board → Option (List ℕ) → List (Option (List ℕ)) → (heard : List ℕ) →
    Spent → Spent → Type 0
CostsAt player p held behind heard before now =
    StepsBy (λ steps. WithinCosts (journey_costs held behind steps) before now) player p
    (opened own_format held) (unwrap_or held []) (opened_all behind) heard
