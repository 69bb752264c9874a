-- The letters of a class, and the room for them.
use Rattle.std.proofs.Common.{◌≡◌, refl, sym, ap, ◌∙◌, ℕ, ◌+◌, ◌-◌, ◌<◌, ◌≤◌, ◌==◌, List, [], ◌∷◌, ◌++◌, length, take, replicate, get_or, Bool, true, false, cond, nat_lt, flat_map, add-one, append_assoc, append-nil, arith}
use Rattle.std.specs.Prelude.{count_by}
use Rattle.std.specs.List.{range_with_len}
use Rattle.std.proofs.lemmas.Bool.Decides.{nat_tests}
use Rattle.std.proofs.lemmas.Grind.{flat_map-append}
use Rattle.std.proofs.lemmas.List.Sums.{count_by-le-length, sum_by-cons, sum_by-take-le, sum_by_push}
use Rattle.std.proofs.lemmas.List.{replicate-append-replicate, take_more}
use Rattle.frz_report.specs.Exits.{letters_in}
use Rattle.frz_report.specs.Walks.{one_if}
use Rattle.frz_report.proofs.Walking.{range_more}

abbrev pub below : ℕ → List ℕ → ℕ
below cell cells = count_by (λ c. nat_lt c cell) cells

abbrev pub at : ℕ → List ℕ → ℕ
at cell cells = count_by (λ c. c == cell) cells

one_by_one : (c cell : ℕ) → cond (nat_lt c cell) 1 0 + cond (c == cell) 1 0 ≡ cond
    (nat_lt c (cell + 1)) 1 0
one_by_one c cell = grind (arith, nat_tests)

sums_added : (a b c x y z : ℕ) → a + b ≡ c → x + y ≡ z → a + x + (b + y) ≡ c + z
sums_added a b c x y z h k = omega arith

-- the men below a number, and those of it
pub below_more : (cell : ℕ) (cells : List ℕ)
    → below cell cells + at cell cells ≡ below (cell + 1) cells
below_more cell [] = refl
below_more cell (c ∷ cells) =
    ap (λ (n : ℕ). n + at cell (c ∷ cells))
    (sum_by-cons (λ (x : ℕ). cond (nat_lt x cell) 1 0) c cells)
    ∙ ap (λ (n : ℕ). cond (nat_lt c cell) 1 0 + below cell cells + n)
    (sum_by-cons (λ (x : ℕ). cond (x == cell) 1 0) c cells)
    ∙ sums_added (cond (nat_lt c cell) 1 0) (cond (c == cell) 1 0) (cond (nat_lt c (cell + 1)) 1 0)
    (below cell cells) (at cell cells) (below (cell + 1) cells) (one_by_one c cell)
    (below_more cell cells)
    ∙ sym (sum_by-cons (λ (x : ℕ). cond (nat_lt x (cell + 1)) 1 0) c cells)

pub below_few : (cell : ℕ) (cells : List ℕ) → below cell cells ≤ length cells
below_few cell cells = count_by-le-length (λ c. nat_lt c cell) cells

pub front_has_no_more : (cell : ℕ) (cells : List ℕ) (i : ℕ) → at cell (take i cells) ≤ at cell cells
front_has_no_more cell cells i = sum_by-take-le (λ (x : ℕ). cond (x == cell) 1 0) cells i

-- one cell more
pub one_cell_more : (cell : ℕ) (cells : List ℕ) (i : ℕ) → i < length cells
    → at cell (take (i + 1) cells) ≡ at cell (take i cells) + one_if (get_or cells i 0 == cell)
one_cell_more cell cells i within =
    ap (at cell) (take_more cells i 0 within) ∙ sum_by_push (λ (x : ℕ). cond (x == cell) 1 0)
    (take i cells) (get_or cells i 0)
    ∙ ap (λ (n : ℕ). at cell (take i cells) + n) (one_if_is (get_or cells i 0 == cell))
  where
    one_if_is : (b : Bool) → cond b 1 0 ≡ one_if b
    one_if_is true = refl
    one_if_is false = refl

-- the letters of one cell more
pub letters_step : (old now new : List ℕ) (m n letter : ℕ) (b : Bool)
    → now ≡ old ++ replicate m letter → new ≡ now ++ replicate (one_if b) letter → n ≡ m + one_if b
    → new ≡ old ++ replicate n letter
letters_step old now new m n letter b h k e =
    k ∙ ap (λ (l : List ℕ). l ++ replicate (one_if b) letter) h
    ∙ append_assoc old (replicate m letter) (replicate (one_if b) letter)
    ∙ ap (λ (l : List ℕ). old ++ l)
    (replicate-append-replicate m (one_if b) letter ∙ ap (λ (j : ℕ). replicate j letter)
    (sym e))

-- the letters of the men of the first n numbers from 1
abbrev pub letters_to : List ℕ → ℕ → List ℕ
letters_to cells n = flat_map (letters_in cells) (range_with_len 1 n)

pub letters_more : (cells : List ℕ) (n : ℕ) → letters_to cells (n + 1) ≡ letters_to cells n
    ++ letters_in cells (n + 1)
letters_more cells n =
    ap (λ (k : ℕ). letters_to cells k) (add-one n) ∙ ap (flat_map (letters_in cells))
    (range_more 1 n)
    ∙ flat_map-append (letters_in cells) (range_with_len 1 n) ((1 + n) ∷ [])
    ∙ ap (λ (l : List ℕ). letters_to cells n ++ l)
    (append-nil (letters_in cells (1 + n)) ∙ ap (letters_in cells) (omega arith))

pub letters_next : (cells : List ℕ) (cell : ℕ) → 1 ≤ cell
    → letters_to cells (cell - 1) ++ letters_in cells cell ≡ letters_to cells (cell + 1 - 1)
letters_next cells cell low =
    let back : cell - 1 + 1 ≡ cell = omega arith in
    let on : cell + 1 - 1 ≡ cell = omega arith in
    ap (λ (k : ℕ). letters_to cells (cell - 1) ++ letters_in cells k) (sym back)
    ∙ sym (letters_more cells (cell - 1)) ∙ ap (letters_to cells) (back ∙ sym on)
