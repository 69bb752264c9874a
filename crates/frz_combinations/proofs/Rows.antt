-- The rows of Pascal's triangle, as far as 64 bits hold their numbers.
use Rattle.std.proofs.Common.{◌≡◌, ℕ, zero, suc, ◌+◌, ◌-◌, ◌^◌, ◌<◌, ◌≤◌, min, List, [], ◌∷◌, ◌++◌, length, refl, ap, sym, ◌∙◌, subst, arith, slice_index, get_or, add-one, replicate, inl, inr, length-append}
use Rattle.std.proofs.lemmas.Bool.{cases_lt}
use Rattle.std.proofs.lemmas.List.{get_or-replicate, get_or_append_left, get_or-append_right}
use Rattle.frz_combinations.specs.Binomials.{choose, capped, IsRow, AreRows}
use Rattle.frz_combinations.proofs.Pascals.{choose-zero, choose-none, choose-suc}

first_number : (k : ℕ) → k < 17 → get_or (1 ∷ replicate 16 0) k 0 ≡ capped (choose 0 k)
first_number zero h = ap capped (sym (choose-zero 0))
first_number (suc k) h = get_or-replicate 16 k 0 0 (omega arith) ∙ ap capped (sym (choose-none k))

-- row 0 is 1, 0, 0, ..
pub row_first : IsRow 0 (1 ∷ replicate 16 0)
row_first = record { width = refl; numbers = first_number }

-- the number in the next row at k
abbrev pub number_below : List ℕ → ℕ → ℕ
number_below row zero = 1
number_below row (suc k) = min (slice_index row (suc k) + slice_index row k) (2 ^ 64 - 1)

pub number_below_at : (row : List ℕ) (k : ℕ) → 1 ≤ k →
    min (slice_index row k + slice_index row (k - 1)) (2 ^ 64 - 1) ≡ number_below row k
number_below_at row zero h = absurd (omega arith)
number_below_at row (suc k) h =
    let e : suc k - 1 ≡ k = omega arith in
    ap (λ j. min (slice_index row (suc k) + slice_index row j) (2 ^ 64 - 1)) e

capped_sum : (a b : ℕ) → capped (capped a + capped b) ≡ capped (a + b)
capped_sum a b = omega arith

next_number : (n : ℕ) (row : List ℕ) → IsRow n row → (k : ℕ) → k < 17 →
    number_below row k ≡ capped (choose (suc n) k)
next_number n row r zero h = ap capped (sym (choose-zero (suc n)))
next_number n row r (suc k) h =
    ap (λ x. min (x + slice_index row k) (2 ^ 64 - 1)) (r.numbers (suc k) h)
    ∙ ap (λ x. min (capped (choose n (suc k)) + x) (2 ^ 64 - 1)) (r.numbers k (omega arith))
    ∙ capped_sum (choose n (suc k)) (choose n k)
    ∙ ap capped (sym (choose-suc n k))

-- a list of the numbers below a row is the next row
pub row_next : (row next : List ℕ) → length next ≡ 17 →
    ((k : ℕ) → k < 17 → slice_index next k ≡ number_below row k) → (n : ℕ) → IsRow n row →
    IsRow (n + 1) next
row_next row next e below n r =
    subst (λ m. IsRow m next) (sym (add-one n))
    (record { width = e; numbers = λ k h. below k h ∙ next_number n row r k h })

pub rows_none : (rows : List (List ℕ)) → length rows ≡ 0 → AreRows rows
unfolding AreRows
rows_none rows e n h = absurd (omega arith)

none_past : (i : ℕ) → i - i ≡ 0
none_past i = omega arith

pub rows_more : (rows : List (List ℕ)) (row : List ℕ) → AreRows rows → IsRow (length rows) row →
    AreRows (rows ++ row ∷ [])
unfolding AreRows
rows_more rows row h r n k =
    elim (cases_lt n (length rows)) [
      | inl less ↦ subst (IsRow n) (sym (get_or_append_left rows (row ∷ []) [] n less)) (h n less)
      | inr more ↦
          let at : n ≡ length rows = let l = length-append rows (row ∷ []) in omega arith in
          let read : get_or (rows ++ row ∷ []) n [] ≡ row = get_or-append_right rows (row ∷ []) n n
          [] (sym at) (omega arith) ∙ ap (λ i. get_or (row ∷ []) i []) (none_past n) in
          subst (IsRow n) (sym read) (subst (λ m. IsRow m row) (sym at) r)
    ]

pub row_at : (rows : List (List ℕ)) (n : ℕ) → AreRows rows → n < length rows →
    IsRow n (get_or rows n [])
unfolding AreRows
row_at rows n h k = h n k

-- the row of ones is right at its first number
pub numbers_first : (row : List ℕ) (i : ℕ) → i < 1 →
    get_or (replicate 17 1) i 0 ≡ number_below row i
numbers_first row zero h = refl
numbers_first row (suc i) h = absurd (omega arith)
