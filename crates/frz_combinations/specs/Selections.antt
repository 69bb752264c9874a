-- Selections: combinations of l to m places among s, numbered
-- by how many places they have, then by rank.
use Rattle.std.specs.Prelude.{ℕ, zero, suc, ◌+◌, ◌-◌, List, length, if◌then◌else◌, nat_lt}
use Rattle.frz_combinations.specs.Binomials.{choose}
use Rattle.frz_combinations.specs.Combinations.{rank, unrank}

-- C(s, l) + C(s, l + 1) + .., a sum of n numbers
abbrev pub choices : ℕ → ℕ → ℕ → ℕ
choices s l zero = 0
choices s l (suc n) = choose s l + choices s (suc l) n

-- how many selections of l to m among s there are
abbrev pub radix : ℕ → ℕ → ℕ → ℕ
radix s l m = choices s l (suc (m - l))

-- the number of a selection of at least l among s: those with fewer places come first
abbrev pub digit : ℕ → ℕ → List ℕ → ℕ
digit s l cs = choices s l (length cs - l) + rank cs

-- how many places the selection with number r has, from l to l + n, and its rank among those of as
-- many places
abbrev pub count_and_rank : ℕ → ℕ → ℕ → ℕ → ℕ × ℕ
count_and_rank s l zero r = (l, r)
count_and_rank s l (suc n) r =
    if nat_lt r (choose s l) then (l, r) else count_and_rank s (suc l) n (r - choose s l)

-- the selection of l to m among s with number d
abbrev pub selection_at : ℕ → ℕ → ℕ → ℕ → List ℕ
selection_at s l m d = let x = count_and_rank s l (m - l) d in unrank s x.0 x.1
