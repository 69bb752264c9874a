-- The numbers in some bytes, pushed one by one.
use Rattle.std.proofs.Common.{◌≡◌, refl, sym, ap, ◌∙◌, ℕ, ◌+◌, ◌*◌, ◌-◌, ◌<◌, ◌≤◌, List, [], ◌∷◌, ◌++◌, length, take, drop, arith, append_assoc, append-nil, length-drop}
use Rattle.std.specs.Int.{w32, from_le_bytes}
use Rattle.frz_table.specs.Numbers.{numbers}
use Rattle.frz_table.proofs.NumberLists.{numbers_first, numbers-zero}

-- the list holds what it held and the numbers before the rest, which is whole numbers
pub record IsPushed (before now bytes rest : List ℕ) : Type 0 where
  pub whole : (k : ℕ) × (length rest ≡ 4 * k)
  pub pushed : (n k : ℕ) → length bytes ≡ 4 * n → length rest ≡ 4 * k
      → now ++ numbers k rest ≡ before ++ numbers n bytes

pub none_pushed : (list bytes : List ℕ) → (k : ℕ) × (length bytes ≡ 4 * k)
    → IsPushed list list bytes bytes
none_pushed list bytes whole =
    record {
      whole = whole;
      pushed = λ n k a b. let same : k ≡ n = omega arith in
          ap (λ (j : ℕ). list ++ numbers j bytes) same;
    }

-- one number more
pub one_pushed : (before now bytes rest more : List ℕ) (number : ℕ) → IsPushed before now bytes rest
    → 4 ≤ length rest → number ≡ from_le_bytes w32 (take 4 rest) → more ≡ drop 4 rest
    → IsPushed before (now ++ number ∷ []) bytes more
one_pushed before now bytes rest more number h enough is left =
    let fewer : length more + 4 ≡ length rest = omega (arith, ap length left, length-drop 4 rest) in
    record {
      whole = (h.whole.0 - 1, omega (arith, h.whole.1));
      pushed = λ n k a b.
          append_assoc now (number ∷ []) (numbers k more)
          ∙ ap (λ (l : List ℕ). now ++ l)
          (ap (λ (x : ℕ). x ∷ numbers k more) is
          ∙ ap (λ (l : List ℕ). from_le_bytes w32 (take 4 rest) ∷ numbers k l) left
          ∙ sym (numbers_first (k + 1) k rest refl))
          ∙ h.pushed n (k + 1) a (omega arith);
    }

-- nothing is left
pub all_pushed : (before now bytes rest : List ℕ) → IsPushed before now bytes rest → length rest < 4
    → (n : ℕ) → length bytes ≡ 4 * n → now ≡ before ++ numbers n bytes
all_pushed before now bytes rest h few n is =
    sym (append-nil now) ∙ ap (λ (l : List ℕ). now ++ l) (sym (numbers-zero rest))
    ∙ h.pushed n 0 is (omega (arith, h.whole.1))
