-- Files made to be opened, or to be refused.
use Rattle.std.proofs.Common.{ℕ, zero, suc, ◌%◌, ◌<◌, List, [], ◌∷◌, ◌++◌, replicate, get_or, arith, lit<}
use Rattle.std.specs.Int.{w32, to_le_bytes, byte_at, bytes_low_first}
use Rattle.frz_table.specs.Numbers.{AreBytes, number_bytes}

-- bytes behind bytes
pub AreBytes-append : (xs ys : List ℕ) → AreBytes xs → AreBytes ys → (i : ℕ)
    → get_or (xs ++ ys) i 0 < 256
AreBytes-append [] ys front back i = back i
AreBytes-append (x ∷ xs) ys front back zero = front 0
AreBytes-append (x ∷ xs) ys front back (suc i) = AreBytes-append xs ys (λ j. front (suc j)) back i

pub AreBytes-zeros : (n i : ℕ) → get_or (replicate n 0) i 0 < 256
AreBytes-zeros zero i = lit< tt
AreBytes-zeros (suc n) zero = lit< tt
AreBytes-zeros (suc n) (suc i) = AreBytes-zeros n i

rest_below : (n : ℕ) → n % 256 < 256
rest_below n = omega arith

byte_below : (i n : ℕ) → byte_at i n < 256
byte_below zero n = rest_below n
byte_below (suc i) n = rest_below _

AreBytes-low_first : (i k n j : ℕ) → get_or (bytes_low_first i k n) j 0 < 256
AreBytes-low_first i zero n j = lit< tt
AreBytes-low_first i (suc k) n zero = byte_below i n
AreBytes-low_first i (suc k) n (suc j) = AreBytes-low_first (suc i) k n j

pub AreBytes-number : (n : ℕ) → AreBytes (to_le_bytes w32 n)
AreBytes-number n = AreBytes-low_first 0 4 n

pub AreBytes-number_bytes : (ns : List ℕ) → AreBytes (number_bytes ns)
unfolding number_bytes
AreBytes-number_bytes [] = AreBytes-zeros 0
AreBytes-number_bytes (n ∷ ns) = AreBytes-append (to_le_bytes w32 n) (number_bytes ns)
    (AreBytes-number n) (AreBytes-number_bytes ns)
