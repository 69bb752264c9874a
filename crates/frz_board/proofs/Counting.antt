-- Men are counted by the range of their numbers.
use Rattle.std.proofs.Common.{◌≡◌, ℕ, ◌+◌, Bool, ◌&&◌, List, [], ◌∷◌, cond, refl, ap, sym, ◌∙◌, arith}
use Rattle.std.specs.Prelude.{◌==◌, count_by, nat_le}
use Rattle.std.proofs.lemmas.List.Sums.{sum_by-cons}
use Rattle.std.proofs.lemmas.Bool.Decides.{nat_tests}
use Rattle.frz_board.specs.declared.man.Colour.TheVariants.{White, Black}
use Rattle.frz_board.specs.Men.{man_of_cell, is_man_of}

-- tests that agree count alike
pub count_by_same : (f g : ℕ → Bool) → ((x : ℕ) → f x ≡ g x) → (xs : List ℕ) →
    count_by f xs ≡ count_by g xs
count_by_same f g h [] = refl
count_by_same f g h (x ∷ xs) =
    sum_by-cons (λ y. cond (f y) 1 0) x xs
    ∙ ap (λ b. cond b 1 0 + count_by f xs) (h x)
    ∙ ap (λ n. cond (g x) 1 0 + n) (count_by_same f g h xs)
    ∙ sym (sum_by-cons (λ y. cond (g y) 1 0) x xs)

one_number : (n x : ℕ) → (nat_le n x && nat_le x n) ≡ (x == n)
one_number n x = grind (arith, nat_tests)

white_numbers : (x : ℕ) → (nat_le 1 x && nat_le x 6) ≡ is_man_of White (man_of_cell x)
white_numbers x = grind (arith, nat_tests)

black_numbers : (x : ℕ) → (nat_le 7 x && nat_le x 12) ≡ is_man_of Black (man_of_cell x)
black_numbers x = grind (arith, nat_tests)

pub count_one : (n : ℕ) (xs : List ℕ) →
    count_by (λ x. nat_le n x && nat_le x n) xs ≡ count_by (λ x. x == n) xs
count_one n xs = count_by_same (λ x. nat_le n x && nat_le x n) (λ x. x == n) (one_number n) xs

pub count_white : (xs : List ℕ) →
    count_by (λ x. nat_le 1 x && nat_le x 6) xs ≡ count_by (λ x. is_man_of White (man_of_cell x)) xs
count_white xs =
    count_by_same (λ x. nat_le 1 x && nat_le x 6) (λ x. is_man_of White (man_of_cell x))
    white_numbers xs

pub count_black : (xs : List ℕ) →
    count_by (λ x. nat_le 7 x && nat_le x 12) xs
    ≡ count_by (λ x. is_man_of Black (man_of_cell x)) xs
count_black xs =
    count_by_same (λ x. nat_le 7 x && nat_le x 12) (λ x. is_man_of Black (man_of_cell x))
    black_numbers xs
