-- That the sums of the code fit, and its targets are on the board.
use Rattle.std.proofs.Common.{◌≡◌, ℕ, suc, ◌+◌, ◌*◌, ◌<◌, ◌≤◌, Bool, true, false, cond, List, [], ◌∷◌, length, map, filter, get_or, arith}
use Rattle.std.specs.List.{All}
use Rattle.frz_squares.proofs.Lemmas.{get_or-squares, length-squares}
use Rattle.std.proofs.lemmas.List.{get_or_default}
use Rattle.std.proofs.lemmas.List.Elements.{All-filter}
use Rattle.frz_board.specs.Boards.{Board}
use Rattle.frz_board.specs.Squares.{squares}
use Rattle.frz_combinations.specs.MixedRadix.{product, value}
use Rattle.frz_index.proofs.GroupSteps.{product_some}
use Rattle.frz_index.proofs.WholeNumbers.{Num_below}
use Rattle.frz_index.specs.Kept.{AreNumberable}
use Rattle.frz_index.specs.Members.{HasNumber, Member}
use Rattle.frz_index.specs.Places.{digit_of}
use Rattle.frz_index.specs.TurnStates.{turn_number}
use Rattle.frz_sets.specs.Sets.{is_possible, radix_of, targets}
use Rattle.frz_sets.specs.Views.{GroupLine}

filter_le : (f : ℕ → Bool) (xs : List ℕ) → length (filter f xs) ≤ length xs
filter_le f [] = omega arith
filter_le f (x ∷ xs) =
    elim (f x) as (λ b. length (cond b (x ∷ filter f xs) (filter f xs)) ≤ suc (length xs))
    [ true ↦ omega (arith, filter_le f xs) | false ↦ omega (arith, filter_le f xs) ]

pub targets_few : (gs : List GroupLine) → length (targets gs) ≤ 64
targets_few gs = omega (arith, filter_le (is_possible gs) squares, length-squares)

pub number_fits : (gs : List GroupLine) (p : Board) → AreNumberable gs → Member gs p →
    turn_number gs p.turn p.ep * product (map radix_of gs) + value (map radix_of gs)
    (map (digit_of p) gs) < 134217728
number_fits gs p s m = omega (arith, Num_below gs p m, s.size)

pub number_small : (gs : List GroupLine) (n : ℕ) (p : Board) → AreNumberable gs → HasNumber gs n p →
    n < 134217728
number_small gs n p s h = omega (arith, h.number, Num_below gs p h.member, s.size)

squares_low : (k d : ℕ) → k < length squares → get_or squares k d < 64
squares_low k d h =
    let low : k < 64 = omega (arith, length-squares) in
    omega (arith, get_or_default squares k d 0 h, get_or-squares k low)

pub targets_low : (gs : List GroupLine) → All (λ t. t < 64) (targets gs)
targets_low gs = All-filter (is_possible gs) (λ t. t < 64) squares (λ k d h. squares_low k d h)

-- the whole is not 0
pub whole_some : (gs : List GroupLine) (whole : ℕ) → AreNumberable gs →
    whole ≡ product (map radix_of gs) → 0 < whole
whole_some gs whole s e = omega (arith, e, product_some gs s.groups)
