-- What the solver by planes keeps from ply to ply.
use Rattle.std.specs.Prelude.{◌≡◌, ◌+◌, ◌<◌, ℕ, true, false, List, length}
use Rattle.frz_board.specs.declared.man.Colour.{Colour}
use Rattle.frz_arena.specs.Arena.{Arena}
use Rattle.frz_sweep.specs.Told.{AreTold}
use Rattle.frz_plane_game.specs.Spots.{Spots, has_spot}
use Rattle.frz_plane_solver.specs.Marks.{IsDecidedTo}
use Rattle.frz_plane_solver.specs.declared.marked.MarkedPlanes.{MarkedPlanes}

-- the number is in the planes
abbrev pub IsIn : Spots → List (List ℕ) → ℕ → Type 0
IsIn spots planes i = (i < spots.numbers) × (has_spot planes (spots.at i) ≡ true)

-- the planes have the wins and failures within so many plies, and the codes tell them
pub record IsSolvedTo {M V : Type 0} (arena : Arena M ℕ V) (spots : Spots) (side : Colour) (plies : ℕ)
    (won lost : MarkedPlanes) (codes : List ℕ) : Type 0 where
  pub many : length codes ≡ spots.numbers
  pub wins : IsDecidedTo arena spots side true plies won
  pub failures : IsDecidedTo arena spots side false plies lost
  pub told : AreTold arena side (plies + 1) codes
