-- Sums and products that are kept within 64 bits.
use Rattle.std.proofs.Common.{◌≡◌, ℕ, zero, suc, ◌+◌, ◌-◌, ◌*◌, ◌^◌, ◌<◌, ◌≤◌, List, [], ◌∷◌, length, drop, get_or, min, refl, sym, ap, ◌∙◌, arith, drop-cons, inl, inr}
use Rattle.std.specs.Prelude.{map}
use Rattle.std.proofs.lemmas.Bool.Decides.{leb_tells}
use Rattle.std.proofs.lemmas.List.{drop_all}
use Rattle.frz_combinations.specs.Binomials.{choose, capped}
use Rattle.frz_combinations.specs.Selections.{choices}
use Rattle.frz_combinations.specs.MixedRadix.{product}
use Rattle.frz_sets.specs.Views.{GroupLine}
use Rattle.frz_sets.specs.Sets.{targets, radix_of, size_of}
use Rattle.frz_sets.specs.Sound.{IsCounted}

-- a number that 64 bits hold as far as they can
unfoldable pub held : ℕ → ℕ
held n = capped n

pub held_is : (n : ℕ) → held n ≡ capped n
unfolding held
held_is n = refl

held_sum : (a b : ℕ) → min (held a + held b) (2 ^ 64 - 1) ≡ held (a + b)
unfolding held
held_sum a b = omega arith

held_small : (n : ℕ) → n ≤ 2 ^ 64 - 1 → held n ≡ n
unfolding held
held_small n h = omega arith

held_large : (n : ℕ) → 2 ^ 64 - 1 ≤ n → held n ≡ 2 ^ 64 - 1
unfolding held
held_large n h = omega arith

more_times : (m x d : ℕ) → m ≤ x → m ≤ x * suc d
more_times m x d h = grind (arith)

times_large : (x c : ℕ) → 2 ^ 64 - 1 < x → held (held x * c) ≡ held (x * c)
times_large x zero h = ap held (omega arith)
times_large x (suc d) h =
    let e = held_large x (omega arith) in
    let low : 2 ^ 64 - 1 ≤ held x = omega (arith, e) in
    let high : 2 ^ 64 - 1 ≤ x = omega arith in
    held_large (held x * suc d) (more_times (2 ^ 64 - 1) (held x) d low)
    ∙ sym (held_large (x * suc d) (more_times (2 ^ 64 - 1) x d high))

-- a factor may be held before it is multiplied
held_times : (x c : ℕ) → held (held x * c) ≡ held (x * c)
held_times x c =
    elim (leb_tells x (2 ^ 64 - 1)) [
      | inl w ↦ ap (λ y. held (y * c)) (held_small x w.1)
      | inr w ↦ times_large x c w.1
    ]

pub capped_times : (x c : ℕ) → capped (capped x * c) ≡ capped (x * c)
unfolding held
capped_times x c = held_times x c

-- the ways with l men and n - 1 numbers of men more
choices_last : (s l n : ℕ) → choices s l (suc n) ≡ choices s l n + choose s (l + n)
choices_last s l zero = let e : l + 0 ≡ l = omega arith in omega (arith, ap (choose s) e)
choices_last s l (suc n) =
    let e : suc l + n ≡ l + suc n = omega arith in
    omega (arith, choices_last s (suc l) n, ap (choose s) e)

-- the ways with l men up to fewer than i
unfoldable pub choices_to : ℕ → ℕ → ℕ → ℕ
choices_to s l i = capped (choices s l (i - l))

pub choices_start : (s l : ℕ) → choices_to s l l ≡ 0
unfolding choices_to
choices_start s l = let e : l - l ≡ 0 = omega arith in ap (λ n. capped (choices s l n)) e

pub choices_more : (s l i : ℕ) → l ≤ i →
    min (choices_to s l i + capped (choose s i)) (2 ^ 64 - 1) ≡ choices_to s l (i + 1)
unfolding choices_to
choices_more s l i h =
    let n : i + 1 - l ≡ suc (i - l) = omega arith in
    let k : l + (i - l) ≡ i = omega arith in
    let sum : choices s l (i + 1 - l) ≡ choices s l (i - l) + choose s i = ap (choices s l) n
    ∙ choices_last s l (i - l) ∙ ap (λ j. choices s l (i - l) + choose s j) k in
    omega (arith, sum)

pub choices_end : (g : GroupLine) (i : ℕ) → IsCounted g → i ≡ g.most + 1 →
    choices_to (length g.states) g.least i ≡ capped (radix_of g)
unfolding choices_to
choices_end g i h e =
    let o = h.order in let n : i - g.least ≡ suc (g.most - g.least) = omega arith in
    ap (λ m. capped (choices (length g.states) g.least m)) n

pub ruleset sums = (choices_start, choices_more, choices_end)

-- the product of t and the radices of the groups from i on
unfoldable pub times_from : ℕ → List GroupLine → ℕ → ℕ
times_from t groups i = held (t * product (map radix_of (drop i groups)))

pub times_start : (groups : List GroupLine) →
    times_from (2 + length (targets groups)) groups 0 ≡ held (size_of groups)
unfolding times_from
times_start groups = refl

product_regrouped : (t r p : ℕ) → t * r * p ≡ r * (t * p)
product_regrouped t r p = grind arith

two_held : (t r p : ℕ) → held (min (t * held r) (2 ^ 64 - 1) * p) ≡ held (t * (r * p))
unfolding held
two_held t r p =
    held_times (t * held r) p ∙ ap held (product_regrouped t (held r) p) ∙ held_times r (t * p)
    ∙ ap held (sym (product_regrouped t r p) ∙ grind arith)

pub times_more : (t r : ℕ) (groups : List GroupLine) (i : ℕ) (g : GroupLine) → i < length groups →
    get_or groups i g ≡ g → r ≡ capped (radix_of g) →
    times_from (min (t * r) (2 ^ 64 - 1)) groups (i + 1) ≡ times_from t groups i
unfolding times_from
times_more t r groups i g l e h =
    let more : i + 1 ≡ suc i = omega arith in
    let d : drop i groups ≡ get_or groups i g ∷ drop (suc i) groups = drop-cons groups i g l in
    let p = product (map radix_of (drop (suc i) groups)) in
    let right : held (t * product (map radix_of (drop i groups))) ≡ held (t * (radix_of g * p)) =
    ap (λ gs. held (t * product (map radix_of gs))) d ∙ ap (λ x. held (t * (radix_of x * p)))
    e in
    ap (λ k. held (min (t * r) (2 ^ 64 - 1) * product (map radix_of (drop k groups)))) more
    ∙ ap (λ x. held (min (t * x) (2 ^ 64 - 1) * p)) (h ∙ sym (held_is (radix_of g)))
    ∙ two_held t (radix_of g) p ∙ sym right

pub times_end : (t : ℕ) (groups : List GroupLine) (n : ℕ) → length groups ≤ n → t < 2 ^ 64 →
    times_from t groups n ≡ t
unfolding times_from
times_end t groups n h l =
    let d : drop n groups ≡ [] = drop_all n groups h in
    ap (λ gs. held (t * product (map radix_of gs))) d ∙ ap held (omega arith)
    ∙ held_small t (omega arith)

pub ruleset products = (held_is, times_start, times_more, times_end)
