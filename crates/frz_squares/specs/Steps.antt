-- A king's steps.
use Rattle.std.specs.Prelude.{ℕ, ◌==◌, ◌&&◌, Bool}
use Rattle.std.specs.List.{list_any}
use Rattle.frz_squares.specs.Squares.{squares, distance}

-- some square a king's step from s passes the test (FIDE 3.8)
abbrev pub any_step : ℕ → (ℕ → Bool) → Bool
any_step s test = list_any (λ c. distance s c == 1 && test c) squares
