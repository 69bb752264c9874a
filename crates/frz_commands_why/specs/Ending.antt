-- How `why` ends with tables that were loaded.
use Rattle.std.specs.Prelude.{◌≡◌, ◌⊎◌, ℕ, List, map, length, slice_index, MatchBool, if◌then◌else◌}
use Rattle.frz_board.specs.declared.man.Colour.{Colour}
use Rattle.frz_board.specs.Boards.{Board}
use Rattle.frz_board.specs.Men.{other_of}
use Rattle.frz_fide.specs.Listing.{legal_moves_of}
use Rattle.frz_sets.specs.declared.exit.Value.{Value}
use Rattle.frz_index.specs.Members.{Num}
use Rattle.frz_graph.specs.EntryCodes.{of_side}
use Rattle.frz_game.specs.Numbers.{is_member}
use Rattle.frz_store.specs.Told.{SinkTold}
use Rattle.frz_backs.specs.FileOn.{loaded_back}
use Rattle.frz_backs.specs.BackTable.{BackTable}
use Rattle.frz_backs.specs.Links.{value_over}
use Rattle.frz_backs.specs.Loaded.{leans_as}
use Rattle.frz_answer.specs.declared.end.End.{End}
use Rattle.frz_answer.specs.declared.end.End.TheVariants.{Stopped}
use Rattle.frz_answer.specs.declared.fault.Fault.TheVariants.{NoMemory}
use Rattle.frz_answer.specs.Ends.{Said}
use Rattle.frz_prelude.specs.Refusals.{refusal_line, status_of}
use Rattle.frz_prelude.specs.declared.refused.Refused.TheVariants as refusals
use Rattle.frz_exit_lines.specs.Numbers.{exit_numbers_of}
use Rattle.frz_commands_why.specs.declared.decider.Decider.{Decider}
use Rattle.frz_commands_why.specs.Deciders.{decider_of}
use Rattle.frz_commands_why.specs.Telling.{EndsWhy, telling_steps}

-- the values of positions outside the set of a loaded table, with these loaded tables behind it
abbrev pub value_loaded : BackTable → List BackTable → Board → Value
value_loaded own backs =
    value_over (leans_as own.table.kind) own.table.rules (map loaded_back backs)

-- what decides them
abbrev pub decider_loaded : BackTable → List BackTable → Board → Decider
decider_loaded own backs =
    decider_of (leans_as own.table.kind) (exit_numbers_of own.table.text) own.table.rules
    (map loaded_back backs)

abbrev pub codes_loaded : BackTable → Colour → List ℕ
codes_loaded own side = of_side side own.white.items own.black.items

-- what is told of a number by these tables
abbrev pub EndsLoaded : BackTable → List BackTable → Colour → (number : ℕ) → End → SinkTold →
    SinkTold → Type 0
EndsLoaded own backs side number end old new =
    EndsWhy own.table.rules (value_loaded own backs) side (codes_loaded own)
    (decider_loaded own backs) number end old new

-- memory ran out, and nothing was written
abbrev pub EndsEarly : End → SinkTold → SinkTold → Type 0
EndsEarly end old new = (end ≡ Stopped NoMemory) × (new ≡ old)

-- a position of the set is told of, unless memory runs out before, and one outside is refused
abbrev pub EndsIn : BackTable → List BackTable → Colour → Board → End → SinkTold → SinkTold → Type 0
EndsIn own backs side p end old new = MatchBool (is_member own.table.rules.groups p)
    (EndsEarly end old new
    ⊎ EndsLoaded own backs side (Num own.table.rules.groups p) end old new)
    (Said (status_of refusals.Outside) (refusal_line refusals.Outside) end old new)

-- the most steps that this takes
abbrev pub stepping_in : BackTable → Colour → Board → ℕ
stepping_in own side p =
    if is_member own.table.rules.groups p
    then telling_steps (slice_index (codes_loaded own side) (Num own.table.rules.groups p))
    (slice_index (codes_loaded own (other_of side)) (Num own.table.rules.groups p))
    (length (legal_moves_of p)) else 0
