-- Numbers in mixed radix, both ways.
use Rattle.std.proofs.Common.{◌≡◌, ℕ, zero, suc, ◌+◌, ◌*◌, ◌/◌, ◌%◌, ◌<◌, List, [], ◌∷◌, ◌++◌, length, refl, ap, sym, ◌∙◌, arith, mul-zero, mul_assoc}
use Rattle.std.proofs.lemmas.Nat.{mul-add-lt, div-mul-add, mod-mul-add, div-add-mod', mod_below, div_below}
use Rattle.std.proofs.Math.Nat.{add-mul}
use Rattle.frz_combinations.specs.MixedRadix.{product, value, digits, AreDigits, value_onto}

-- a product above some number has no factor 0
pos_from_product : (b p n : ℕ) → n < b * p → 0 < p
pos_from_product b zero n h = absurd (omega (arith, mul-zero b))
pos_from_product b (suc p) n h = omega arith

digit_in_product : (n b d p v : ℕ) → (n * b + d) * p + v ≡ n * (b * p) + (d * p + v)
digit_in_product n b d p v = omega (arith, add-mul (n * b) d p, mul_assoc n b p)

pub value_below : (bs ds : List ℕ) → AreDigits bs ds → value bs ds < product bs
value_below [] ds h = omega arith
value_below (b ∷ bs) [] h = absurd h
value_below (b ∷ bs) (d ∷ ds) h =
    let below = value_below bs ds h.1 in
    omega (arith, mul-add-lt d (product bs) (value bs ds) b h.0 below)

pub digits-value : (bs ds : List ℕ) → AreDigits bs ds → digits bs (value bs ds) ≡ ds
digits-value [] ds h = sym h
digits-value (b ∷ bs) [] h = absurd h
digits-value (b ∷ bs) (d ∷ ds) h =
    let below = value_below bs ds h.1 in
    ap (λ x. x ∷ digits bs ((d * product bs + value bs ds) % product bs))
    (div-mul-add d (product bs) (value bs ds) below)
    ∙ ap (λ x. d ∷ digits bs x) (mod-mul-add d (product bs) (value bs ds) below)
    ∙ ap (λ xs. d ∷ xs) (digits-value bs ds h.1)

-- the digits of a number below the product are digits, and their number is that number
pub digits_fit : (bs : List ℕ) (n : ℕ) → n < product bs → AreDigits bs (digits bs n)
digits_fit [] n h = refl
digits_fit (b ∷ bs) n h =
    let some : 0 < product bs = pos_from_product b (product bs) n h in (
      div_below n (product bs) b some h,
      digits_fit bs (n % product bs)
          (mod_below n (product bs) some),
    )

pub value-digits : (bs : List ℕ) (n : ℕ) → n < product bs → value bs (digits bs n) ≡ n
value-digits [] n h = omega arith
value-digits (b ∷ bs) n h =
    let some : 0 < product bs = pos_from_product b (product bs) n h in
    ap (λ x. n / product bs * product bs + x)
    (value-digits bs (n % product bs) (mod_below n (product bs) some))
    ∙ div-add-mod' n (product bs)

-- the number computed from the first digit on
pub value_onto-value : (n : ℕ) (bs ds : List ℕ) → AreDigits bs ds →
    value_onto n bs ds ≡ n * product bs + value bs ds
value_onto-value n [] ds h = omega arith
value_onto-value n (b ∷ bs) [] h = absurd h
value_onto-value n (b ∷ bs) (d ∷ ds) h =
    value_onto-value (n * b + d) bs ds h.1 ∙ digit_in_product n b d (product bs) (value bs ds)

-- digits behind digits: the number of the first ones is where the others begin
pub value_onto-append : (n : ℕ) (rs bs xs ys : List ℕ) → length rs ≡ length xs →
    value_onto n (rs ++ bs) (xs ++ ys) ≡ value_onto (value_onto n rs xs) bs ys
value_onto-append n [] bs [] ys h = refl
value_onto-append n [] bs (x ∷ xs) ys h = absurd (omega arith)
value_onto-append n (a ∷ rs) bs [] ys h = absurd (omega arith)
value_onto-append n (a ∷ rs) bs (x ∷ xs) ys h =
    value_onto-append (n * a + x) rs bs xs ys (omega arith)

pub AreDigits-append : (rs bs xs ys : List ℕ) → AreDigits rs xs → AreDigits bs ys →
    AreDigits (rs ++ bs) (xs ++ ys)
AreDigits-append [] bs [] ys h k = k
AreDigits-append [] bs (x ∷ xs) ys h k = absurd (let e : x ∷ xs ≡ [] = h in cc)
AreDigits-append (a ∷ rs) bs [] ys h k = absurd h
AreDigits-append (a ∷ rs) bs (x ∷ xs) ys h k = (h.0, AreDigits-append rs bs xs ys h.1 k)

pub product-append : (rs bs : List ℕ) → product (rs ++ bs) ≡ product rs * product bs
product-append [] bs = omega arith
product-append (a ∷ rs) bs =
    ap (λ n. a * n) (product-append rs bs) ∙ sym (mul_assoc a (product rs) (product bs))
