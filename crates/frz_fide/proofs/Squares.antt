-- Loops over the squares.
use Rattle.std.proofs.Common.{◌≡◌, ℕ, ◌+◌, ◌<◌, ◌≤◌, List, ◌++◌, length, take, subst, arith, append-nil}
use Rattle.std.specs.List.{flat_map}
use Rattle.std.proofs.lemmas.List.Folds.{length-flat_map-take}
use Rattle.std.proofs.lemmas.Grind.{flat_map-append, take_at_read}
use Rattle.std.proofs.lemmas.List.{take_all}
use Rattle.frz_board.specs.Squares.{squares}
use Rattle.frz_squares.proofs.Lemmas.{length-squares, get_or-squares}

-- one more square
pub flat_map_next : {X : Type 0} (f : ℕ → List X) (n : ℕ) → n < 64 →
    flat_map f (take (n + 1) squares) ≡ flat_map f (take n squares) ++ f n
flat_map_next f n h =
    let in_list : n < length squares = omega (arith, length-squares) in
    rw ((take_at_read squares n 0 in_list).1, flat_map-append, get_or-squares n h, append-nil)

-- the items of one more square are no more than those of all squares leave room for
pub room_next : {X : Type 0} (f : ℕ → List X) (n : ℕ) → n < 64 →
    length (flat_map f (take n squares)) + length (f n) ≤ length (flat_map f squares)
room_next f n h =
    let in_list : n < length squares = omega (arith, length-squares) in
    (let fact = length-flat_map-take f squares n 0 in_list in
    let at_n = get_or-squares n h in
    subst (λ k. length (flat_map f (take n squares)) + length (f k) ≤ length (flat_map f squares))
    at_n fact)

pub take-squares : take 64 squares ≡ squares
take-squares = take_all 64 squares (omega (arith, length-squares))
