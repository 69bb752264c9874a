-- How many men of the side that has moved there are.
use Rattle.std.proofs.Common.{take-take, ◌≡◌, ℕ, ◌+◌, ◌<◌, ◌≤◌, List, length, ap, Bool, true, cond, arith}
use Rattle.std.specs.Prelude.{count_by, take}
use Rattle.std.proofs.lemmas.List.Sums.{count_by_more_yes, sum_by-take-le}
use Rattle.frz_fide.proofs.Lemmas.{few}
use Rattle.frz_board.specs.Shapes.{men_of}
use Rattle.frz_board.specs.Boards.{Board, holds}
use Rattle.frz_board.specs.Men.{man_of_cell, other_of, is_man_of}
use Rattle.frz_fide.specs.Valid.{IsValid}

-- how many men of the side that has moved stand on the first n squares
unfoldable pub movers_below : Board → ℕ → ℕ
movers_below q n = count_by (λ x. is_man_of (other_of q.turn) (man_of_cell x)) (take n q.cells)

fewer_below : (t : ℕ → Bool) (xs : List ℕ) (n s : ℕ) → n ≤ s →
    count_by t (take n xs) ≤ count_by t (take s xs)
fewer_below t xs n s le =
    let cut : take n (take s xs) ≡ take n xs = take-take n s xs le in
    let part = sum_by-take-le (λ x. cond (t x) 1 0) (take s xs) n in
    let same = ap (count_by t) cut in
    omega (arith, part, same)

pub movers_next : (q : Board) (n s : ℕ) → length q.cells ≡ 64 → n ≤ s → s < 64 →
    holds q (other_of q.turn) s ≡ true → movers_below q n + 1 ≤ movers_below q (s + 1)
unfolding movers_below
movers_next q n s size le on own =
    let t : ℕ → Bool = λ x. is_man_of (other_of q.turn) (man_of_cell x) in
    let more = count_by_more_yes t q.cells s 0 (omega (arith, size)) own in
    let fewer = fewer_below t q.cells n s le in
    omega (arith, more, fewer)

pub movers_few : (q : Board) (n : ℕ) → IsValid q → movers_below q n ≤ 16
unfolding movers_below men_of
movers_few q n v =
    let t : ℕ → Bool = λ x. is_man_of (other_of q.turn) (man_of_cell x) in
    let all = few q (other_of q.turn) v.men in
    let part = sum_by-take-le (λ x. cond (t x) 1 0) q.cells n in
    omega (arith, all, part)
