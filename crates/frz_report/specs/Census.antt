-- Classes counted: each one that is met is listed once, where it is first met, and how often it is.
use Rattle.std.specs.Prelude.{ℕ, not, List, [], ◌∷◌, map, filter, count_by}
use Rattle.std.specs.Str.{bytes_eq}

-- the first of each class, in the order in which they are met
abbrev pub firsts_by : {X : Type 0} → (class : X → List ℕ) → List X → List X
firsts_by class [] = []
firsts_by class (x ∷ xs) =
    x ∷ filter (λ y. not (bytes_eq (class x) (class y))) (firsts_by class xs)

-- each class once, in the order in which they are first met
abbrev pub firsts : List (List ℕ) → List (List ℕ)
firsts = firsts_by (λ c. c)

-- how often the class occurs
abbrev pub times : List (List ℕ) → List ℕ → ℕ
times cs c = count_by (bytes_eq c) cs

-- the classes that occur, each with how often it does
abbrev pub census : List (List ℕ) → List (List ℕ × ℕ)
census cs = map (λ c. (c, times cs c)) (firsts cs)
