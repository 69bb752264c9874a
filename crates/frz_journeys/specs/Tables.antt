-- The tables of a journey: a table, and those before it, on which it may lean.
use Rattle.std.specs.Prelude.{ℕ, suc, List, [], ◌∷◌, Bool, true, false, Option, None, Some, if◌then◌else◌}
use Rattle.frz_board.specs.Boards.{Board}
use Rattle.frz_board.specs.Moving.{Step}
use Rattle.frz_board.specs.declared.man.Colour.{Colour}
use Rattle.frz_sets.specs.declared.exit.Value.{Value}
use Rattle.frz_sets.specs.declared.exit.Value.TheVariants.{Unknown}
use Rattle.frz_arena.specs.Arena.{Arena}
use Rattle.frz_exits.specs.Books.{value_by}
use Rattle.frz_graph.specs.EntryCodes.{of_side}
use Rattle.frz_game.specs.Games.{graph_by}
use Rattle.frz_game.specs.Numbers.{is_member}
use Rattle.frz_backs.specs.Links.{Link, backs_of, value_over}

-- the tables on which a table leans: all before it, or none
abbrev pub leant_on : Bool → List Link → List Link
leant_on true before = before
leant_on false before = []

-- the game of a table over its numbers, with the values of exits that it goes by
abbrev pub arena_over : List Link → Link → Arena Step ℕ Value
arena_over before table = graph_by table.rules (value_over table.leans table.rules (backs_of before))

abbrev pub codes_of : Colour → Link → List ℕ
codes_of side table = of_side side table.back.white table.back.black

-- the first of these tables whose set holds the position, with its place; the first has the place
-- `place`
unfoldable pub first_from : (place : ℕ) → List Link → Board → Option (ℕ × Link)
first_from place [] q = None
first_from place (table ∷ tables) q =
    if is_member table.rules.groups q then Some (place, table) else first_from (suc place) tables q

-- what is found behind exit lines that give this value: nothing, unless they say nothing
abbrev pub where_unknown : {A : Type 0} → Value → Option A → Option A
where_unknown Unknown found = found
where_unknown v found = None

-- the table that goes on from a position outside a table's set: where the exit lines say nothing of
-- the position, the first of the tables that this one leans on whose set holds it
abbrev pub next_of : List Link → Link → Board → Option (ℕ × Link)
next_of before table q =
    where_unknown (value_by table.rules q) (first_from 0 (leant_on table.leans before) q)
