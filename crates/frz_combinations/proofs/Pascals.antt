-- Pascal's rule, and what follows of it.
use Rattle.std.proofs.Common.{◌≡◌, ℕ, zero, suc, ◌+◌, ◌-◌, ◌<◌, ◌≤◌, refl, ap, sym, ◌∙◌, subst, arith}
use Rattle.frz_combinations.specs.Binomials.{choose}

pub choose-zero : (n : ℕ) → choose n 0 ≡ 1
unfolding choose
choose-zero n = refl

pub choose-suc : (n k : ℕ) → choose (suc n) (suc k) ≡ choose n (suc k) + choose n k
unfolding choose
choose-suc n k = refl

pub choose-none : (k : ℕ) → choose 0 (suc k) ≡ 0
unfolding choose
choose-none k = refl

-- there are n ways to choose one of n
pub choose-one : (n : ℕ) → choose n 1 ≡ n
choose-one zero = choose-none 0
choose-one (suc n) = omega (arith, choose-suc n 0, choose-one n, choose-zero n)

-- there is no way to choose more than n of n
pub choose-past : (n k : ℕ) → n < k → choose n k ≡ 0
choose-past n zero h = absurd (omega arith)
choose-past zero (suc k) h = choose-none k
choose-past (suc n) (suc k) h =
    omega (
      arith,
      choose-suc n k,
      choose-past n (suc k) (omega arith),
      choose-past n k (omega arith),
    )

pub choose-pascal : (n k : ℕ) → 0 < k → choose (n + 1) k ≡ choose n k + choose n (k - 1)
choose-pascal n zero h = absurd (omega arith)
choose-pascal n (suc k) h =
    let more : n + 1 ≡ suc n = omega arith in
    let less : suc k - 1 ≡ k = omega arith in
    ap (λ m. choose m (suc k)) more ∙ choose-suc n k
    ∙ ap (λ j. choose n (suc k) + choose n j) (sym less)

-- more states, more ways
pub choose_step : (n k : ℕ) → choose n k ≤ choose (suc n) k
choose_step n zero = omega (arith, choose-zero n, choose-zero (suc n))
choose_step n (suc k) = omega (arith, choose-suc n k)

pub choose_grows : (n d k : ℕ) → choose n k ≤ choose (d + n) k
choose_grows n zero k = grind arith
choose_grows n (suc d) k = grind (arith, choose_grows n d k, choose_step (d + n) k)

pub choose_wider : (n m k : ℕ) → n ≤ m → choose n k ≤ choose m k
choose_wider n m k h =
    let e : (m - n) + n ≡ m = omega arith in subst (λ x. choose n k ≤ choose x k) e
    (choose_grows n (m - n) k)

-- there is some way to place l men on enough states
pub choose_some : (s l : ℕ) → l ≤ s → 0 < choose s l
choose_some s zero h = omega (arith, choose-zero s)
choose_some zero (suc l) h = absurd (omega arith)
choose_some (suc s) (suc l) h = omega (arith, choose-suc s l, choose_some s l (omega arith))
