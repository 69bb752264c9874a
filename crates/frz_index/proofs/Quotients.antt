-- A quotient told by a product, and what is left over.
use Rattle.std.proofs.Common.{◌≡◌, ℕ, ◌-◌, ◌*◌, ◌/◌, ◌%◌, ◌<◌, ◌≤◌, ap, arith}
use Rattle.std.proofs.Math.Nat.{add-mul, div-eq_of_lt-le}
use Rattle.std.proofs.lemmas.Nat.{div-add-mod'}

pub quotient_told : (n d q : ℕ) → q * d ≤ n → n - q * d < d → q ≡ n / d
quotient_told n d q low near =
    let product = add-mul q 1 d in
    let told = div-eq_of_lt-le {k = q} d {m = n} low (omega (arith, low, near, product)) in
    omega (arith, told)

pub left_told : (n d q : ℕ) → q ≡ n / d → (q * d ≤ n) × (n - q * d ≡ n % d)
left_told n d q e =
    let product = ap (λ x. x * d) e in
    let whole = div-add-mod' n d in (
      omega (arith, product, whole),
      omega (arith, product, whole),
    )
