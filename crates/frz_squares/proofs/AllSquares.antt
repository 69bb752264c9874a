-- The list of the squares; a test of all squares is the test of each square.
use Rattle.std.proofs.Common.{◌≡◌, ℕ, zero, suc, ◌+◌, ◌<◌, ◌≤◌, Bool, true, false, ◌&&◌, length, get_or, refl, ap, sym, ◌∙◌, arith, inl, inr}
use Rattle.std.specs.List.{list_all, list_any, range_with_len}
use Rattle.std.proofs.lemmas.Bool.Decides.{eqb_tells}
use Rattle.std.proofs.lemmas.List.FromFn.{length-range_with_len, get_or-range_with_len}
use Rattle.frz_squares.specs.Squares.{squares}
use Rattle.std.specs.Cmp.{both_ways}
use Rattle.std.proofs.lemmas.Bool.{and_parts, or_cases, false_from_ne_true}
use Rattle.frz_squares.proofs.Connectives.{either_or}

pub length-squares : length squares ≡ 64
unfolding squares
length-squares = length-range_with_len 0 64

pub get_or-squares : (n : ℕ) → n < 64 → get_or squares n 0 ≡ n
unfolding squares
get_or-squares n h = get_or-range_with_len 0 64 n 0 h ∙ omega arith

pub all_from : (q : ℕ → Bool) (a n : ℕ) → ((k : ℕ) → a ≤ k → k < a + n → q k ≡ true) →
    list_all q (range_with_len a n) ≡ true
all_from q a zero h = refl
all_from q a (suc n) h =
    ap (λ x. x && list_all q (range_with_len (a + 1) n)) (h a (omega arith) (omega arith))
    ∙ all_from q (a + 1) n (λ k l m. h k (omega arith) (omega arith))

pub all_at : (q : ℕ → Bool) (a n : ℕ) → list_all q (range_with_len a n) ≡ true → (k : ℕ) → a ≤ k →
    k < a + n → q k ≡ true
all_at q a zero h k l m = absurd (omega arith)
all_at q a (suc n) h k l m =
    let parts = and_parts (q a) (list_all q (range_with_len (a + 1) n)) h in
    elim (eqb_tells a k) [
      | inl w ↦ ap q (sym w.1) ∙ parts.0
      | inr w ↦ all_at q (a + 1) n parts.1 k (let ne = w.1 in omega arith) (omega arith)
    ]

any_from : (q : ℕ → Bool) (a n : ℕ) → list_any q (range_with_len a n) ≡ true →
    (k : ℕ) × (a ≤ k) × (k < a + n) × (q k ≡ true)
any_from q a zero h = absurd cc
any_from q a (suc n) h =
    elim (or_cases (q a) (list_any q (range_with_len (a + 1) n)) h) [
      | inl w ↦ (a, omega arith, omega arith, w)
      | inr w ↦ later (any_from q (a + 1) n w)
    ]
  where
    later : (k : ℕ) × (a + 1 ≤ k) × (k < a + 1 + n) × (q k ≡ true) →
        (k : ℕ) × (a ≤ k) × (k < a + suc n) × (q k ≡ true)
    later (k, l, m, w) = (k, omega arith, omega arith, w)

any_at : (q : ℕ → Bool) (a n k : ℕ) → a ≤ k → k < a + n → q k ≡ true →
    list_any q (range_with_len a n) ≡ true
any_at q a zero k l m h = absurd (omega arith)
any_at q a (suc n) k l m h =
    elim (eqb_tells a k) [
      | inl w ↦ either_or (q a) (list_any q (range_with_len (a + 1) n)) (inl (ap q w.1 ∙ h))
      | inr w ↦ either_or (q a) (list_any q (range_with_len (a + 1) n))
          (inr (any_at q (a + 1) n k (let ne = w.1 in omega arith) (omega arith) h))
    ]

pub each_square : (q : ℕ → Bool) → list_all q squares ≡ true → (s : ℕ) → s < 64 → q s ≡ true
unfolding squares
each_square q h s l = all_at q 0 64 h s (omega arith) (omega arith)

pub all_squares : (q : ℕ → Bool) → ((s : ℕ) → s < 64 → q s ≡ true) → list_all q squares ≡ true
unfolding squares
all_squares q h = all_from q 0 64 (λ s l m. h s (omega arith))

pub not_all_squares : (q : ℕ → Bool) (s : ℕ) → s < 64 → q s ≡ false → list_all q squares ≡ false
not_all_squares q s l h =
    false_from_ne_true (list_all q squares) (λ e. let t : q s ≡ true = each_square q e s l in cc)

-- a square, and that it passes
pub record Found (q : ℕ → Bool) : Type 0 where
  pub square : ℕ
  pub on_board : square < 64
  pub passes : q square ≡ true

pub some_square : (q : ℕ → Bool) → list_any q squares ≡ true → Found q
unfolding squares
some_square q h = found (any_from q 0 64 h)
  where
    found : (k : ℕ) × (0 ≤ k) × (k < 0 + 64) × (q k ≡ true) → Found q
    found (k, l, m, w) = record { square = k; on_board = omega arith; passes = w }

pub any_square : (q : ℕ → Bool) (s : ℕ) → s < 64 → q s ≡ true → list_any q squares ≡ true
unfolding squares
any_square q s l h = any_at q 0 64 s (omega arith) (omega arith) h

pub no_square : (q : ℕ → Bool) → ((s : ℕ) → s < 64 → q s ≡ false) → list_any q squares ≡ false
no_square q h =
    false_from_ne_true (list_any q squares)
    (λ e. let w = some_square q e in let not = h w.square w.on_board in let there = w.passes in
    cc)

-- two tests that agree on each square
pub all_squares-same : (q r : ℕ → Bool) → ((s : ℕ) → s < 64 → q s ≡ r s) →
    list_all q squares ≡ list_all r squares
all_squares-same q r h =
    both_ways (list_all q squares) (list_all r squares)
    (λ e. all_squares r (λ s l. sym (h s l) ∙ each_square q e s l))
    (λ e. all_squares q (λ s l. h s l ∙ each_square r e s l))
