-- The states of places, gone through in order.
use Rattle.std.proofs.Common.{◌≡◌, ℕ, ◌+◌, true, false, cond, List, [], ◌∷◌, ◌++◌, refl, ap, ◌∙◌, arith}
use Rattle.std.specs.Prelude.{map, filter}
use Rattle.std.specs.List.{range_with_len}
use Rattle.std.proofs.lemmas.List.{append-nil}
use Rattle.std.proofs.lemmas.List.FromFn.{filter_of_map_range_with_len_more}
use Rattle.frz_board.specs.declared.man.Kind.{Kind}
use Rattle.frz_sets.specs.Groups.{state_at}
use Rattle.frz_rules.specs.States.{is_placed, states_of}

-- the states with numbers below n, of those that the places have
unfoldable pub states_below : List (Kind × ℕ) → ℕ → List (Kind × ℕ)
states_below places n = filter (is_placed places) (map state_at (range_with_len 0 n))

pub states_start : (places : List (Kind × ℕ)) → states_below places 0 ≡ []
unfolding states_below
states_start places = refl

pub states_yes : (places : List (Kind × ℕ)) (n : ℕ) → is_placed places (state_at n) ≡ true →
    states_below places (n + 1) ≡ states_below places n ++ state_at n ∷ []
unfolding states_below
states_yes places n e =
    filter_of_map_range_with_len_more (is_placed places) state_at 0 n n (omega arith)
    ∙ ap (λ b. filter (is_placed places) (map state_at (range_with_len 0 n)) ++ cond b
    (state_at n ∷ []) []) e

pub states_no : (places : List (Kind × ℕ)) (n : ℕ) → is_placed places (state_at n) ≡ false →
    states_below places (n + 1) ≡ states_below places n
unfolding states_below
states_no places n e =
    filter_of_map_range_with_len_more (is_placed places) state_at 0 n n (omega arith)
    ∙ ap (λ b. filter (is_placed places) (map state_at (range_with_len 0 n)) ++ cond b
    (state_at n ∷ []) []) e
    ∙ append-nil (filter (is_placed places) (map state_at (range_with_len 0 n)))

pub states_end : (places : List (Kind × ℕ)) (n : ℕ) → n ≡ 384 →
    states_below places n ≡ states_of places
unfolding states_below states_of
states_end places n e = ap (λ m. filter (is_placed places) (map state_at (range_with_len 0 m))) e

pub ruleset placing = (states_start, states_yes, states_no, states_end)
