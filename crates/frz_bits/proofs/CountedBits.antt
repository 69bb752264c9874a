-- The bits set in a word are as many as the squares that pass its test, and so count the men there.
use Rattle.std.proofs.Common.{◌≡◌, ℕ, Bool, cond, List, [], ◌∷◌, length, map, count_ones, slice_index, ap, sym, ◌∙◌, arith, refl}
use Rattle.std.specs.Prelude.{count_by, sum_by, ◌==◌}
use Rattle.std.proofs.lemmas.List.Sums.{sum_by-cons}
use Rattle.std.proofs.lemmas.List.FromFn.{length-map-range_with_len, get_or-map-range_with_len}
use Rattle.std.proofs.lemmas.Grind.{same_number_lists}
use Rattle.frz_board.specs.declared.man.Colour.{Colour}
use Rattle.frz_board.specs.declared.man.Kind.{Kind}
use Rattle.frz_board.specs.Men.{cell_of_man, is_man_of, man_of_cell}
use Rattle.frz_board.specs.Boards.{Board, has, holds}
use Rattle.frz_board.specs.Shapes.{count_of, men_of}
use Rattle.frz_squares.specs.Squares.{squares}
use Rattle.frz_squares.specs.SquareSets.{set_of}
use Rattle.frz_squares.proofs.Lemmas.{ones_of}

-- the cells, read square by square
read_by_square : (xs : List ℕ) → length xs ≡ 64 → map (λ s. slice_index xs s) squares ≡ xs
unfolding squares
read_by_square xs h =
    same_number_lists _ _ (length-map-range_with_len (λ s. slice_index xs s) 0 64 ∙ sym h)
    (λ i l. get_or-map-range_with_len (λ s. slice_index xs s) 0 64 i i 0
    (omega (arith, length-map-range_with_len (λ s. slice_index xs s) 0 64)) (omega arith))

sum_by-map : (g : ℕ → ℕ) (f : ℕ → ℕ) (xs : List ℕ) → sum_by g (map f xs) ≡ sum_by (λ x. g (f x)) xs
sum_by-map g f [] = refl
sum_by-map g f (x ∷ xs) =
    omega (
      arith,
      sum_by-cons g (f x) (map f xs),
      sum_by-cons (λ y. g (f y)) x xs,
      sum_by-map g f xs,
    )

-- a count over the cells, square by square
pub count_by_squares : (t : ℕ → Bool) (xs : List ℕ) → length xs ≡ 64 →
    count_by (λ s. t (slice_index xs s)) squares ≡ count_by t xs
count_by_squares t xs h =
    sym (sum_by-map (λ x. cond (t x) 1 0) (λ s. slice_index xs s) squares)
    ∙ ap (λ ys. count_by t ys) (read_by_square xs h)

pub men_by_squares : (p : Board) (c : Colour) → length p.cells ≡ 64 →
    count_by (λ s. holds p c s) squares ≡ men_of p c
unfolding men_of
men_by_squares p c size = count_by_squares (λ x. is_man_of c (man_of_cell x)) p.cells size

-- the word of a man tells how many such men stand on the board
pub men_counted : (p : Board) (c : Colour) (k : Kind) → length p.cells ≡ 64 →
    count_ones (set_of (λ s. has p c k s)) ≡ count_of p c k
men_counted p c k size =
    ones_of (λ s. has p c k s)
    ∙ count_by_squares (λ x. x == cell_of_man (record { colour = c; kind = k })) p.cells size

-- the word of a side tells how many men it has
pub side_counted : (p : Board) (c : Colour) → length p.cells ≡ 64 →
    count_ones (set_of (λ s. holds p c s)) ≡ men_of p c
side_counted p c size = ones_of (λ s. holds p c s) ∙ men_by_squares p c size
