-- The first square of a word from a number on.
use Rattle.std.proofs.Common.{◌≡◌, ◌≢◌, ℕ, ◌+◌, ◌-◌, ◌/◌, ◌^◌, ◌%◌, ◌<◌, ◌≤◌, ap, sym, ◌∙◌, arith, w64, shr-shr, inl, inr}
use Rattle.std.specs.Prelude.{◌==◌}
use Rattle.std.specs.Int.{bit_at, trailing_zeros}
use Rattle.std.proofs.lemmas.Nat.{shr_le}
use Rattle.std.proofs.lemmas.Nat.Bits.{bit_at-trailing_zeros, bit_at_above}
use Rattle.std.proofs.lemmas.Bool.{eq-eqb, cases_lt}
use Rattle.frz_squares.specs.Words.{HasNoneFrom, IsNext}
use Rattle.frz_squares.specs.SquareSets.{has_square}
use Rattle.frz_squares.proofs.Bits.{has-zero}

has-shifted : (w n k : ℕ) → has_square (w / 2 ^ n) k ≡ has_square w (n + k)
has-shifted w n k = ap (λ v. v % 2 == 1) (shr-shr w n k)

-- the bits from n on, as those of the shifted word
moved : (w n k : ℕ) → n ≤ k → has_square w k ≡ has_square (w / 2 ^ n) (k - n)
moved w n k l =
    let e : n + (k - n) ≡ k = omega arith in ap (has_square w) (sym e)
    ∙ sym (has-shifted w n (k - n))

pub none_left : (w n : ℕ) → w / 2 ^ n ≡ 0 → HasNoneFrom w n
none_left w n e =
    record { none = λ k l m. moved w n k l ∙ ap (λ v. has_square v (k - n)) e ∙ has-zero (k - n) }

-- a set bit is below 64
bit_below_64 : (w k : ℕ) → w < 2 ^ 64 → bit_at w k ≡ 1 → k < 64
bit_below_64 w k small b =
    elim (cases_lt k 64) [
      | inl l ↦ l
      | inr l ↦ absurd (let none = bit_at_above w 64 k small l in omega arith)
    ]

pub next_is : (w n : ℕ) → w < 2 ^ 64 → w / 2 ^ n ≢ 0 →
    IsNext w n (n + trailing_zeros w64 (w / 2 ^ n))
next_is w n small some =
    let rest = w / 2 ^ n in
    let low : rest < 2 ^ 64 = omega (arith, shr_le w n) in
    let t = bit_at-trailing_zeros w64 rest (omega arith) low in
    let there : bit_at w (n + trailing_zeros w64 rest) ≡ 1 = ap (λ v. v % 2)
    (sym (shr-shr w n (trailing_zeros w64 rest))) ∙ t.1 in
    record {
      from = omega arith;
      on_board = bit_below_64 w (n + trailing_zeros w64 rest) small there;
      there = eq-eqb (bit_at w (n + trailing_zeros w64 rest)) 1 there;
      first = λ k l m. moved w n k l ∙ ap (λ b. b == 1) (t.2 (k - n) (omega arith));
    }
