-- Numbers in mixed radix: each digit has a radix of its own.
use Rattle.std.specs.Prelude.{◌≡◌, ℕ, ◌+◌, ◌*◌, ◌/◌, ◌%◌, ◌<◌, List, [], ◌∷◌}

abbrev pub product : List ℕ → ℕ
product [] = 1
product (b ∷ bs) = b * product bs

-- there is one digit for each radix, and each is below its radix
abbrev pub AreDigits : List ℕ → List ℕ → Type 0
AreDigits [] ds = ds ≡ []
AreDigits (b ∷ bs) [] = ⊥
AreDigits (b ∷ bs) (d ∷ ds) = (d < b) × AreDigits bs ds

-- the number of these digits: each counts as much as all numbers of the digits after it
abbrev pub value : List ℕ → List ℕ → ℕ
value [] ds = 0
value (b ∷ bs) [] = 0
value (b ∷ bs) (d ∷ ds) = d * product bs + value bs ds

-- the digits of a number
abbrev pub digits : List ℕ → ℕ → List ℕ
digits [] r = []
digits (b ∷ bs) r = (r / product bs) ∷ digits bs (r % product bs)

-- the number of these digits appended to n, from the first on: the number so far times the radix,
-- plus the digit
abbrev pub value_onto : ℕ → List ℕ → List ℕ → ℕ
value_onto n [] ds = n
value_onto n (b ∷ bs) [] = n
value_onto n (b ∷ bs) (d ∷ ds) = value_onto (n * b + d) bs ds
