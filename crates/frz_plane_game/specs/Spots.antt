-- Where the numbers of a game stand: each in the plane of its configuration, at the pair of its
-- kings' squares.
use Rattle.std.specs.Prelude.{◌≡◌, ◌<◌, ◌↔◌, ℕ, Bool, true, List, [], ⊤}
use Rattle.std.specs.List.{slice_index_or}
use Rattle.frz_board.specs.declared.man.Colour.{Colour}
use Rattle.frz_arena.specs.declared.node.Node.{Node}
use Rattle.frz_arena.specs.declared.node.Node.TheVariants.{Broken, Mate, Stalemate, Going}
use Rattle.frz_planes.specs.Planes.{has_pair}

-- a configuration, and the squares of both kings
pub record Spot : Type 0 where
  pub configuration : ℕ
  pub white : ℕ
  pub black : ℕ

-- how many numbers and configurations there are, and the spot of each number
pub record Spots : Type 0 where
  pub numbers : ℕ
  pub configurations : ℕ
  pub at : ℕ → Spot

-- the spots of all numbers are on the board, in a configuration, and no two are one
pub record AreSpots (spots : Spots) : Type 0 where
  pub configuration : (i : ℕ) → i < spots.numbers →
      (spots.at i).configuration < spots.configurations
  pub white : (i : ℕ) → i < spots.numbers → (spots.at i).white < 64
  pub black : (i : ℕ) → i < spots.numbers → (spots.at i).black < 64
  pub once : (i j : ℕ) → i < spots.numbers → j < spots.numbers → spots.at i ≡ spots.at j → i ≡ j

-- some number stands here
pub record IsSpot (spots : Spots) (c a b : ℕ) : Type 0 where
  pub number : ℕ
  pub inside : number < spots.numbers
  pub here : spots.at number ≡ record { configuration = c; white = a; black = b }

-- the plane of a configuration, among those of all
abbrev pub plane_at : List (List ℕ) → ℕ → List ℕ
plane_at planes c = slice_index_or planes c []

-- the spot is in the plane of its configuration
abbrev pub has_spot : List (List ℕ) → Spot → Bool
has_spot planes spot = has_pair (plane_at planes spot.configuration) spot.white spot.black

-- the pairs of the plane are the numbers of the configuration of which P holds
pub record HasNumbers (spots : Spots) (c : ℕ) (plane : List ℕ) (P : ℕ → Type 0) : Type 0 where
  pub there : (i : ℕ) → i < spots.numbers → (spots.at i).configuration ≡ c →
      (has_pair plane (spots.at i).white (spots.at i).black ≡ true) ↔ P i
  pub only : (a b : ℕ) → a < 64 → b < 64 → has_pair plane a b ≡ true → IsSpot spots c a b

-- the pairs of the planes, one for each configuration, are the numbers of which P holds
abbrev pub HaveNumbers : Spots → List (List ℕ) → (ℕ → Type 0) → Type 0
HaveNumbers spots planes P =
    (c : ℕ) → c < spots.configurations → HasNumbers spots c (plane_at planes c) P

-- this colour is to move, if the position is not broken
abbrev pub IsTurnOf : Colour → Node → Type 0
IsTurnOf mover Broken = ⊤
IsTurnOf mover (Mate c) = c ≡ mover
IsTurnOf mover (Stalemate c) = c ≡ mover
IsTurnOf mover (Going c) = c ≡ mover
