-- The states that the places of a group line give.
use Rattle.std.specs.Prelude.{ℕ, Bool, ◌&&◌, ◌==◌, List, map, filter}
use Rattle.std.specs.List.{list_any, range_with_len}
use Rattle.frz_board.specs.declared.man.Kind.{Kind}
use Rattle.frz_board.specs.Men.{number_of_kind}
use Rattle.frz_words.specs.Squares.{has_square}
use Rattle.frz_sets.specs.Groups.{state_at}

-- one of the places, a kind and its squares, has the state
abbrev pub is_placed : List (Kind × ℕ) → Kind × ℕ → Bool
is_placed places s =
    list_any (λ p. number_of_kind p.0 == number_of_kind s.0 && has_square p.1 s.1) places

-- the states of the places, in order and each once
unfoldable pub states_of : List (Kind × ℕ) → List (Kind × ℕ)
states_of places = filter (is_placed places) (map state_at (range_with_len 0 384))
