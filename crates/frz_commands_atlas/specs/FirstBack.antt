-- The first table behind the exit lines of another whose set has a position.
use Rattle.std.specs.Prelude.{ℕ, suc, Bool, ◌&&◌, List, [], ◌∷◌, Option, Some, None, if◌then◌else◌}
use Rattle.frz_board.specs.Boards.{Board}
use Rattle.frz_sets.specs.Views.{RuleLines}
use Rattle.frz_exits.specs.Books.{value_by}
use Rattle.frz_exits.specs.Values.{is_unknown}
use Rattle.frz_atlas.specs.Books.{Back}
use Rattle.frz_atlas.specs.Codes.{codes_of}

-- the place of a table, from 0, with White's code and Black's in it
abbrev pub Found : Type 0
Found = ℕ × (ℕ × ℕ)

abbrev pub found_or : (place : ℕ) → (others : Option Found) → Option (ℕ × ℕ) → Option Found
found_or place others None = others
found_or place others (Some found) = Some (place, found)

-- the first of these tables whose set has the position; the first of them has this place
unfoldable pub first_found : (place : ℕ) → List Back → Board → Option Found
first_found place [] q = None
first_found place (back ∷ backs) q =
    found_or place (first_found (suc place) backs q) (codes_of back q)

-- they are asked where the text leans on them and its exit lines say nothing
abbrev pub found_behind : (leans : Bool) → RuleLines → List Back → Board → Option Found
found_behind leans rules backs q =
    if leans && is_unknown (value_by rules q) then first_found 0 backs q else None
