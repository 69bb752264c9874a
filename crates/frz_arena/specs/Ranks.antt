-- The order in which a mover prefers codes: the lower the rank, the better.
use Rattle.std.specs.Prelude.{◌^◌, ◌-◌, ℕ, Bool, true, false, min, if◌then◌else◌, List, [], ◌∷◌}
use Rattle.frz_arena.specs.Codes.{is_win, is_failure}

-- the side seeks wins and shuns failures, and its opponent does the opposite
abbrev pub is_sought : (own : Bool) → ℕ → Bool
is_sought true = is_win
is_sought false = is_failure

abbrev pub is_shunned : (own : Bool) → ℕ → Bool
is_shunned true = is_failure
is_shunned false = is_win

-- the rank of a code: sought codes come first, the least before all; then 0 and 1; then shunned
-- codes, the greatest before the others
abbrev pub rank_of : (own : Bool) → ℕ → ℕ
rank_of own code =
    if is_sought own code then code
    else (if is_shunned own code then 2 ^ 64 - 1 - code else 2 ^ 32)

-- the rank where there is no move, which is as a mate: behind the ranks of all codes
abbrev pub last_rank : (own : Bool) → ℕ
last_rank true = 2 ^ 64 - 2
last_rank false = 2 ^ 64 - 1

-- the best (least) rank among those of some codes
abbrev pub best_rank : (own : Bool) → List ℕ → ℕ
best_rank own [] = last_rank own
best_rank own (c ∷ cs) = min (rank_of own c) (best_rank own cs)
