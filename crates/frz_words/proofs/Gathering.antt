-- The bits of a set, gathered square by square.
use Rattle.std.proofs.Common.{◌≡◌, ℕ, suc, ◌+◌, ◌*◌, ◌^◌, ◌%◌, ◌<◌, ◌≤◌, Bool, true, false, refl, ap, arith, add-one, pow-suc}
use Rattle.std.proofs.lemmas.Nat.{pow_below}
use Rattle.std.proofs.Math.Pow.{pow_mono}
use Rattle.frz_squares.specs.SquareSets.{bits_below, set_of}
use Rattle.frz_squares.proofs.Lemmas.{bits_below-small}

-- the bits below s, as a loop keeps them
unfoldable pub bits_to : (ℕ → Bool) → ℕ → ℕ
bits_to f s = bits_below f s

pub bits_to-zero : (f : ℕ → Bool) → bits_to f 0 ≡ 0
unfolding bits_to
bits_to-zero f = refl

pub bits_to-yes : (f : ℕ → Bool) (s : ℕ) → f s ≡ true → bits_to f (s + 1) ≡ bits_to f s + 2 ^ s
unfolding bits_to
bits_to-yes f s e = rw (add-one, e) refl

pub bits_to-no : (f : ℕ → Bool) (s : ℕ) → f s ≡ false → bits_to f (s + 1) ≡ bits_to f s
unfolding bits_to
bits_to-no f s e = rw (add-one, e) (omega arith)

pub bits_to-small : (f : ℕ → Bool) (s : ℕ) → s < 64 → bits_to f s + 2 ^ s < 2 ^ 64
unfolding bits_to
bits_to-small f s h =
    let at : suc s ≤ 64 = omega arith in let m = pow_mono at in
    omega (arith, bits_below-small f s, pow-suc 2 s, m)

pub bits_to-all : (f : ℕ → Bool) → bits_to f 64 ≡ set_of f
unfolding bits_to set_of
bits_to-all f = refl

pub one_shifted_fits : (n : ℕ) → n < 64 → 1 * 2 ^ n % 2 ^ 64 ≡ 2 ^ n
one_shifted_fits n h = let b = pow_below n 64 h in omega arith

pub bits_to-end : (f : ℕ → Bool) (n : ℕ) → n ≡ 64 → bits_to f n ≡ set_of f
unfolding bits_to set_of
bits_to-end f n h = ap (bits_below f) h

pub ruleset bits = (
  one_shifted_fits,
  bits_to-end,
  bits_to-zero,
  bits_to-yes,
  bits_to-no,
  bits_to-small,
  bits_to-all,
)
