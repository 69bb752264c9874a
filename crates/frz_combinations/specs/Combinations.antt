-- Combinations: places among a number of states, and their ranks in colexicographic order.
use Rattle.std.specs.Prelude.{ℕ, zero, suc, ◌+◌, ◌-◌, ◌≡◌, ◌<◌, Bool, List, [], ◌∷◌, length, if◌then◌else◌, nat_le, ◌⊎◌}
use Rattle.frz_combinations.specs.Binomials.{choose}

-- a combination of places below s is listed from its last place to its first
abbrev pub AreDescending : ℕ → List ℕ → Type 0
AreDescending s [] = Unit {0}
AreDescending s (c ∷ cs) = (c < s) × AreDescending c cs

-- C(c1, 1) + .. + C(cj, j) for the places c1 < .. < cj
abbrev pub rank : List ℕ → ℕ
rank [] = 0
rank (c ∷ cs) = choose c (length (c ∷ cs)) + rank cs

-- colexicographic order: the last place in which two combinations differ decides
abbrev pub IsBefore : List ℕ → List ℕ → Type 0
IsBefore [] ds = ⊥
IsBefore (c ∷ cs) [] = ⊥
IsBefore (c ∷ cs) (d ∷ ds) = (c < d) ⊎ ((c ≡ d) × IsBefore cs ds)

-- the combination of j places below s with rank r: from the last place to the first, each is the
-- greatest whose binomial is not above what is left
abbrev pub unrank : ℕ → ℕ → ℕ → List ℕ
unrank zero j r = []
unrank (suc s) zero r = []
unrank (suc s) (suc j) r =
    if nat_le (choose s (suc j)) r then s ∷ unrank s j (r - choose s (suc j))
    else unrank s (suc j) r

-- a combination of j places below s whose rank is r
pub record IsRanked (s j r : ℕ) (cs : List ℕ) : Type 0 where
  pub count : length cs ≡ j
  pub places : AreDescending s cs
  pub rank_is : rank cs ≡ r

-- the places below n at which f holds, from the last to the first
abbrev pub places_below : (ℕ → Bool) → ℕ → List ℕ
places_below f zero = []
places_below f (suc n) = if f n then n ∷ places_below f n else places_below f n
