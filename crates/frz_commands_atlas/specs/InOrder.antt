-- The order of the elements of a list by rank, as one list.
use Rattle.std.specs.Prelude.{ℕ, nat_lt, List, [], ◌∷◌, if◌then◌else◌}

-- x before the first that does not rank below it
abbrev pub put_in : {X : Type 0} → (rank : X → ℕ) → X → List X → List X
put_in rank x [] = x ∷ []
put_in rank x (y ∷ ys) =
    if nat_lt (rank y) (rank x) then y ∷ put_in rank x ys else x ∷ y ∷ ys

-- from the lowest rank on, and those of one rank in the order that they had
abbrev pub in_order : {X : Type 0} → (rank : X → ℕ) → List X → List X
in_order rank [] = []
in_order rank (x ∷ xs) = put_in rank x (in_order rank xs)
