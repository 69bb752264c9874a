-- Numbers of squares that exchange their bits, and words that do.
use Rattle.std.proofs.Common.{◌≡◌, ℕ, zero, suc, ◌+◌, ◌-◌, ◌*◌, ◌/◌, ◌%◌, ◌^◌, ◌<◌, ◌≤◌, Bool, true, false, cond, ◌&&◌, ◌||◌, not, w64, bit_and, bit_or, get_or, refl, ap, sym, ◌∙◌, arith, shr-shr, ◌⊎◌, inl, inr, List}
use Rattle.std.specs.Prelude.{◌==◌}
use Rattle.std.specs.Int.{bit_at, bit_not}
use Rattle.std.proofs.Math.Pow.{pow_pos}
use Rattle.std.proofs.lemmas.Nat.{shr_split}
use Rattle.std.proofs.lemmas.Nat.Bits.{bit_at_cat_low, bit_at_cat_high, bit_at-lt}
use Rattle.frz_squares.specs.SquareSets.{has_square, set_of}
use Rattle.frz_squares.proofs.Lemmas.{has-and, has-or, has-set_of, has-without, set_of-small}
use Rattle.frz_king_planes.specs.declared.turning.TheConstants.{CLEAR}
use Rattle.frz_planes.specs.Planes.{has_pair}
use Rattle.frz_king_planes.specs.Turning.{with_bit_of}

-- what holds of each bit of a square's number
each_bit : (P : ℕ → Type 0) → P 0 → P 1 → P 2 → P 3 → P 4 → P 5 → (i : ℕ) → i < 6 → P i
each_bit P p q r s t u zero l = p
each_bit P p q r s t u (suc zero) l = q
each_bit P p q r s t u (suc (suc zero)) l = r
each_bit P p q r s t u (suc (suc (suc zero))) l = s
each_bit P p q r s t u (suc (suc (suc (suc zero)))) l = t
each_bit P p q r s t u (suc (suc (suc (suc (suc zero))))) l = u
each_bit P p q r s t u (suc (suc (suc (suc (suc (suc i)))))) l = absurd (omega arith)

bit_within : (i : ℕ) → i < 6 → (a : ℕ) → bit_at a i * 2 ^ i ≤ a
bit_within =
    each_bit (λ i. (a : ℕ) → bit_at a i * 2 ^ i ≤ a) (λ a. omega arith) (λ a. omega arith)
    (λ a. omega arith) (λ a. omega arith) (λ a. omega arith) (λ a. omega arith)

-- the number a with its bits below i as b has them
abbrev pub with_low_of : (i a b : ℕ) → ℕ
with_low_of i a b = a / 2 ^ i * 2 ^ i + b % 2 ^ i

-- one bit more
pub low_more : (i : ℕ) → i < 6 → (a b : ℕ) → a < 64 → b < 64 →
    with_low_of i (with_bit_of i a b) (with_bit_of i b a) ≡ with_low_of (i + 1) a b
low_more =
    each_bit (λ i. (a b : ℕ) → a < 64 → b < 64 →
    with_low_of i (with_bit_of i a b) (with_bit_of i b a) ≡ with_low_of (i + 1) a b)
    (λ a b la lb. omega arith) (λ a b la lb. omega arith) (λ a b la lb. omega arith)
    (λ a b la lb. omega arith) (λ a b la lb. omega arith) (λ a b la lb. omega arith)

pub bit_small : (i : ℕ) → i < 6 → (a b : ℕ) → a < 64 → b < 64 → with_bit_of i a b < 64
bit_small =
    each_bit (λ i. (a b : ℕ) → a < 64 → b < 64 → with_bit_of i a b < 64)
    (λ a b la lb. omega arith) (λ a b la lb. omega arith) (λ a b la lb. omega arith)
    (λ a b la lb. omega arith) (λ a b la lb. omega arith) (λ a b la lb. omega arith)

pub low_all : (i a b : ℕ) → i ≡ 6 → a < 64 → b < 64 → with_low_of i a b ≡ b
low_all i a b e la lb =
    let all : with_low_of 6 a b ≡ b = omega arith in ap (λ j. with_low_of j a b) e ∙ all

pub step_is : (i : ℕ) → i < 6 → 1 * 2 ^ i % 2 ^ 64 ≡ 2 ^ i
step_is = each_bit (λ i. 1 * 2 ^ i % 2 ^ 64 ≡ 2 ^ i) refl refl refl refl refl refl

clear_is : (i : ℕ) → i < 6 → get_or CLEAR i 0 ≡ set_of (λ b. bit_at b i == 0)
unfolding set_of
clear_is =
    each_bit (λ i. get_or CLEAR i 0 ≡ set_of (λ b. bit_at b i == 0)) refl refl refl refl refl refl

-- a bit of a word shifted up
has-raised : (w n k : ℕ) → k < 64 → n ≤ k → has_square (w * 2 ^ n % 2 ^ 64) k ≡ has_square w (k - n)
has-raised w n k l m =
    let e : w * 2 ^ n ≡ w * 2 ^ n + 0 = omega arith in
    ap (λ b. b == 1) (sym (bit_at_cat_low (w * 2 ^ n / 2 ^ 64) 64 (w * 2 ^ n % 2 ^ 64) k l))
    ∙ ap (λ v. has_square v k) (shr_split (w * 2 ^ n) 64 ∙ e)
    ∙ ap (λ b. b == 1) (bit_at_cat_high w n 0 k (pow_pos n) m)

pick : (x y t : Bool) → ((x && t) || (y && not t)) ≡ cond t x y
pick true true true = refl
pick true true false = refl
pick true false true = refl
pick true false false = refl
pick false true true = refl
pick false true false = refl
pick false false true = refl
pick false false false = refl

-- a word whose bits are those of v where the mask has them, and those of w elsewhere
abbrev merged : (mask v w : ℕ) → ℕ
merged mask v w = bit_or (bit_and v mask) (bit_and w (bit_not w64 mask))

has-merged : (i v w b : ℕ) → i < 6 → b < 64 → has_square (merged (get_or CLEAR i 0) v w) b
    ≡ cond (bit_at b i == 0) (has_square v b) (has_square w b)
has-merged i v w b li lb =
    let f = λ (k : ℕ). bit_at k i == 0 in
    let small = set_of-small f in
    ap (λ m. has_square (merged m v w) b) (clear_is i li)
    ∙ has-or (bit_and v (set_of f)) (bit_and w (bit_not w64 (set_of f))) b
    ∙ ap (λ x. x || has_square (bit_and w (bit_not w64 (set_of f))) b) (has-and v (set_of f) b)
    ∙ ap (λ x. (has_square v b && has_square (set_of f) b) || x) (has-without w (set_of f) b small lb)
    ∙ pick (has_square v b) (has_square w b) (has_square (set_of f) b)
    ∙ ap (λ t. cond t (has_square v b) (has_square w b)) (has-set_of f b lb)

two_bits : (x : ℕ) → x < 2 → (x ≡ 0) ⊎ (x ≡ 1)
two_bits zero h = inl refl
two_bits (suc zero) h = inr refl
two_bits (suc (suc x)) h = absurd (omega arith)

kept : (a x y p : ℕ) → x * p ≤ a → y ≡ x → a - x * p + y * p ≡ a
kept a x y p l e = rw e (omega arith)

raised : (a x y p : ℕ) → x ≡ 0 → y ≡ 1 → a - x * p + y * p ≡ a + p
raised a x y p e f = rw (e, f) (omega arith)

lowered : (a x y p : ℕ) → x ≡ 1 → y ≡ 0 → a - x * p + y * p ≡ a - p
lowered a x y p e f = rw (e, f) (omega arith)

module _ (p : List ℕ) (i a b step : ℕ) (li : i < 6) (lb : b < 64) (is : step ≡ 2 ^ i) where
  there : (x y : ℕ) → with_bit_of i a b ≡ x → with_bit_of i b a ≡ y →
      has_pair p x y ≡ has_pair p (with_bit_of i a b) (with_bit_of i b a)
  there x y e f = ap (λ j. has_pair p j y) (sym e) ∙ ap (has_pair p (with_bit_of i a b)) (sym f)

  unmoved : bit_at a i ≡ bit_at b i →
      has_pair p a b ≡ has_pair p (with_bit_of i a b) (with_bit_of i b a)
  unmoved e =
      there a b (kept a (bit_at a i) (bit_at b i) (2 ^ i) (bit_within i li a) (sym e))
      (kept b (bit_at b i) (bit_at a i) (2 ^ i) (bit_within i li b) e)

  -- a row whose number has the bit clear
  pub lower_row : bit_at a i ≡ 0 → has_square (merged (get_or CLEAR i 0) (get_or p a 0)
      (get_or p (a + step) 0 * 2 ^ step % 2 ^ 64)) b
      ≡ has_pair p (with_bit_of i a b) (with_bit_of i b a)
  lower_row e =
      has-merged i (get_or p a 0) (get_or p (a + step) 0 * 2 ^ step % 2 ^ 64) b li lb
      ∙ elim (two_bits (bit_at b i) (bit_at-lt b i)) [
        | inl z ↦ ap (λ x. cond (x == 0) (has_pair p a b)
            (has_square (get_or p (a + step) 0 * 2 ^ step % 2 ^ 64) b)) z
            ∙ unmoved (e ∙ sym z)
        | inr o ↦ (let within = bit_within i li b in
            let low : step ≤ b = omega (arith, ap (λ x. x * 2 ^ i) o) in
            ap (λ x. cond (x == 0) (has_pair p a b)
            (has_square (get_or p (a + step) 0 * 2 ^ step % 2 ^ 64) b)) o
            ∙ has-raised (get_or p (a + step) 0) step b lb low
            ∙ there (a + step) (b - step)
            (raised a (bit_at a i) (bit_at b i) (2 ^ i) e o ∙ ap (λ n. a + n) (sym is))
            (lowered b (bit_at b i) (bit_at a i) (2 ^ i) o e ∙ ap (λ n. b - n) (sym is)))
      ]

  -- a row whose number has it set
  pub upper_row : bit_at a i ≡ 1 → has_square (merged (get_or CLEAR i 0)
      (get_or p (a - step) 0 / 2 ^ step) (get_or p a 0)) b
      ≡ has_pair p (with_bit_of i a b) (with_bit_of i b a)
  upper_row e =
      has-merged i (get_or p (a - step) 0 / 2 ^ step) (get_or p a 0) b li lb
      ∙ elim (two_bits (bit_at b i) (bit_at-lt b i)) [
        | inl z ↦ (let same : step + b ≡ b + step = omega arith in
            ap (λ x. cond (x == 0) (has_square (get_or p (a - step) 0 / 2 ^ step) b)
            (has_pair p a b)) z
            ∙ ap (λ v. v % 2 == 1) (shr-shr (get_or p (a - step) 0) step b)
            ∙ ap (has_pair p (a - step)) same
            ∙ there (a - step) (b + step)
            (lowered a (bit_at a i) (bit_at b i) (2 ^ i) e z ∙ ap (λ n. a - n) (sym is))
            (raised b (bit_at b i) (bit_at a i) (2 ^ i) z e ∙ ap (λ n. b + n) (sym is)))
        | inr o ↦ ap (λ x. cond (x == 0) (has_square (get_or p (a - step) 0 / 2 ^ step) b)
            (has_pair p a b)) o
            ∙ unmoved (e ∙ sym o)
      ]
