-- Planes of which some are marked.
use Rattle.std.specs.Prelude.{◌≡◌, ◌+◌, ◌<◌, ℕ, Bool, true, false, List, [], ◌∷◌, length}
use Rattle.frz_board.specs.declared.man.Colour.{Colour}
use Rattle.frz_arena.specs.Arena.{Arena}
use Rattle.frz_plane_game.specs.Spots.{HaveNumbers, Spots}
use Rattle.frz_plane_game.specs.Targets.{is_marked}
use Rattle.frz_plane_solver.specs.Decided.{Decided}
use Rattle.frz_plane_solver.specs.declared.marked.MarkedPlanes.{MarkedPlanes}

-- the planes of the marked configurations, and empty planes of the others
abbrev pub those_marked : (marks : List Bool) → List (List ℕ) → List (List ℕ)
those_marked [] planes = []
those_marked (mark ∷ marks) [] = []
those_marked (true ∷ marks) (plane ∷ planes) = plane ∷ those_marked marks planes
those_marked (false ∷ marks) (plane ∷ planes) = [] ∷ those_marked marks planes

-- the planes that count
abbrev pub marked_planes : MarkedPlanes → List (List ℕ)
marked_planes marked = those_marked marked.marks.items marked.planes.items

-- there is a plane and a mark for each of so many configurations
pub record AreFor (configurations : ℕ) (marked : MarkedPlanes) : Type 0 where
  pub planes : length marked.planes.items ≡ configurations
  pub marks : length marked.marks.items ≡ configurations

-- each of so many configurations is marked
abbrev pub AreAllMarked : (configurations : ℕ) → MarkedPlanes → Type 0
AreAllMarked configurations marked =
    (c : ℕ) → c < configurations → is_marked marked.marks.items c ≡ true

-- the last ply decided numbers of marked configurations alone
pub record MarksLast {M V : Type 0} (arena : Arena M ℕ V) (spots : Spots) (side : Colour)
    (win : Bool) (plies : ℕ) (marks : List Bool) : Type 0 where
  pub before : (i k : ℕ) → i < spots.numbers → plies ≡ k + 1 →
      is_marked marks (spots.at i).configuration ≡ false → Decided arena side win plies i →
      Decided arena side win k i

-- the planes have what is decided within so many plies, and the marks tell where the last one did
pub record IsDecidedTo {M V : Type 0} (arena : Arena M ℕ V) (spots : Spots) (side : Colour)
    (win : Bool) (plies : ℕ) (decided : MarkedPlanes) : Type 0 where
  pub size : AreFor spots.configurations decided
  pub numbers : HaveNumbers spots decided.planes.items (Decided arena side win plies)
  pub last : MarksLast arena spots side win plies decided.marks.items
