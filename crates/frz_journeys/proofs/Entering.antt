-- The table that a journey enters behind a stage.
use Rattle.std.proofs.Common.{◌≡◌, ◌<◌, List, Option, None, Some, Result, length, subst}
use Rattle.std.specs.Prelude.{MatchOption, map, slice_get}
use Rattle.std.proofs.lemmas.Option.{slice_get_within}
use Rattle.frz_board.specs.Boards.{Board}
use Rattle.frz_index.proofs.Lemmas.{Num_below}
use Rattle.frz_sets.specs.Sets.{size_of}
use Rattle.frz_chain.specs.declared.back.BackTable.{BackTable}
use Rattle.frz_backs.specs.Loaded.{link_loaded}
use Rattle.frz_ways.specs.declared.session_end.PlayFault.{PlayFault}
use Rattle.frz_ways.specs.declared.way_end.Finish.{Finish}
use Rattle.frz_journeys.specs.declared.onward.Entry.{Entry}
use Rattle.frz_journeys.specs.Onward.{Finds, GoesOnward, IsEntry, left_to}
use Rattle.frz_journeys.specs.Tables.{next_of}

found_by : (before : List BackTable) (table : BackTable) (o : Option Board) (entry : Entry)
    → MatchOption o (◌≡◌ {A = Option Entry} (Some entry) None)
    (λ q. Finds before q (next_of (map link_loaded before) (link_loaded table) q) (Some entry))
    → (next : BackTable) × (q : Board) × IsEntry before q entry next
found_by before table None entry h = absurd (cc)
found_by before table (Some q) entry h = (h.0, q, h.2)

-- it is one of those before, and the number is one of its set
pub entry_found_before : (before : List BackTable) (table : BackTable)
    (finish : Result Finish PlayFault)
    (entry : Entry) → GoesOnward table before finish (Some entry)
    → (next : BackTable) × (q : Board) × IsEntry before q entry next
entry_found_before before table finish entry onwards =
    found_by before table (left_to table.table.rules.groups finish) entry onwards

pub entry_within : (before : List BackTable) (table : BackTable) (finish : Result Finish PlayFault)
    (entry : Entry) → GoesOnward table before finish (Some entry) → entry.place < length before
entry_within before table finish entry onwards =
    let f = entry_found_before before table finish entry onwards in
    slice_get_within before entry.place f.0 f.2.there

pub number_within : (before : List BackTable) (table : BackTable)
    (finish : Result Finish PlayFault) (entry : Entry)
    → GoesOnward table before finish (Some entry) → (next : BackTable)
    → slice_get before entry.place ≡ Some next → entry.number < size_of next.table.rules.groups
number_within before table finish entry onwards next there =
    let f = entry_found_before before table finish entry onwards in
    let same : f.0 ≡ next = (let a = f.2.there in cc) in
    let has = f.2.numbered in
    let below = Num_below f.0.table.rules.groups f.1 has.member in
    subst (λ (t : BackTable). entry.number < size_of t.table.rules.groups) same
    (subst (λ n. n < size_of f.0.table.rules.groups) has.number below)
