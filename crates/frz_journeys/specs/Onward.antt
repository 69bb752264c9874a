-- Where a way that left the set of its table goes on.
use Rattle.std.specs.Prelude.{◌≡◌, ℕ, true, List, Option, None, Some, Result, Ok, slice_get, map, MatchOption, ⊤}
use Rattle.std.specs.Option.{option_map}
use Rattle.frz_board.specs.Boards.{Board}
use Rattle.frz_board.specs.Moving.{Step}
use Rattle.frz_fide.specs.Legal.{after, is_legal}
use Rattle.frz_index.specs.Members.{HasNumber}
use Rattle.frz_index.specs.Membership.{position_at}
use Rattle.frz_sets.specs.Views.{GroupLine}
use Rattle.frz_chain.specs.declared.back.BackTable.{BackTable}
use Rattle.frz_backs.specs.Links.{Link}
use Rattle.frz_backs.specs.Loaded.{link_loaded}
use Rattle.frz_ways.specs.declared.session_end.PlayFault.{PlayFault}
use Rattle.frz_ways.specs.declared.way_end.Finish.{Finish}
use Rattle.frz_ways.specs.declared.way_end.Finish.TheVariants.{Left}
use Rattle.frz_journeys.specs.declared.onward.Entry.{Entry}
use Rattle.frz_journeys.specs.Tables.{next_of}

-- the number has a position, and the move is legal there
pub record CanMove (groups : List GroupLine) (number : ℕ) (move : Step) : Type 0 where
  pub position : Board
  pub there : position_at groups number ≡ Some position
  pub legal : is_legal position move ≡ true

-- a way that left its set did so by a legal move
abbrev pub LeftLegally : List GroupLine → Result Finish PlayFault → Type 0
LeftLegally groups (Ok (Left number move v)) = CanMove groups number move
LeftLegally groups result = ⊤

-- the position to which the move leads from the number
abbrev pub behind : List GroupLine → (number : ℕ) → Step → Option Board
behind groups number move = option_map (λ p. after p move) (position_at groups number)

-- the position to which a way has led that left its set
abbrev pub left_to : List GroupLine → Result Finish PlayFault → Option Board
left_to groups (Ok (Left number move v)) = behind groups number move
left_to groups result = None

-- the entry is into this table, at the position's number there
pub record IsEntry (tables : List BackTable) (q : Board) (entry : Entry) (table : BackTable)
    : Type 0 where
  pub there : slice_get tables entry.place ≡ Some table
  pub numbered : HasNumber table.table.rules.groups entry.number q

-- none is found where none is due, or the entry is into the table that is due, at its place
abbrev pub Finds : List BackTable → Board → (due : Option (ℕ × Link)) → Option Entry → Type 0
Finds tables q due None = due ≡ None
Finds tables q due (Some entry) =
    (table : BackTable) × (due ≡ Some (entry.place, link_loaded table))
    × IsEntry tables q entry table

-- the entry is into the table that goes on behind a way that finished so; there is none where none
-- goes on
abbrev pub GoesOnward : BackTable → List BackTable → Result Finish PlayFault → Option Entry → Type 0
GoesOnward table before finish entry =
    MatchOption (left_to table.table.rules.groups finish) (entry ≡ None)
    (λ q. Finds before q (next_of (map link_loaded before) (link_loaded table) q) entry)
