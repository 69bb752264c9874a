-- Numbers in bytes, one after the other.
use Rattle.std.proofs.Common.{◌≡◌, refl, sym, ap, ◌∙◌, ℕ, zero, suc, ◌+◌, ◌-◌, ◌*◌, ◌<◌, ◌≤◌, List, [], ◌∷◌, ◌++◌, length, take, drop, arith, add-one, append_assoc, append-nil, length-append, zero-add, Some}
use Rattle.std.specs.Int.{w32, to_le_bytes, from_le_bytes}
use Rattle.std.specs.List.{slice_get}
use Rattle.std.proofs.lemmas.List.{drop-drop, drop-take, take-take}
use Rattle.frz_table.specs.Numbers.{number_at, numbers, number_bytes}

pub length-to_le_bytes : (n : ℕ) → length (to_le_bytes w32 n) ≡ 4
length-to_le_bytes n = refl

pub length-number_bytes : (ns : List ℕ) → length (number_bytes ns) ≡ 4 * length ns
unfolding number_bytes
length-number_bytes [] = refl
length-number_bytes (n ∷ ns) =
    omega (
      arith,
      length-append (to_le_bytes w32 n) (number_bytes ns),
      length-to_le_bytes n,
      length-number_bytes ns,
    )

pub number_bytes-append : (ms ns : List ℕ) → number_bytes (ms ++ ns) ≡ number_bytes ms
    ++ number_bytes ns
unfolding number_bytes
number_bytes-append [] ns = refl
number_bytes-append (m ∷ ms) ns = ap (λ (l : List ℕ). to_le_bytes w32 m ++ l)
    (number_bytes-append ms ns)
    ∙ sym (append_assoc (to_le_bytes w32 m) (number_bytes ms) (number_bytes ns))

pub number_bytes-one : (n : ℕ) → number_bytes (n ∷ []) ≡ to_le_bytes w32 n
unfolding number_bytes
number_bytes-one n = append-nil (to_le_bytes w32 n)

pub numbers-zero : (bytes : List ℕ) → numbers 0 bytes ≡ []
unfolding numbers
numbers-zero bytes = refl

pub length-numbers : (count : ℕ) (bytes : List ℕ) → length (numbers count bytes) ≡ count
unfolding numbers
length-numbers zero bytes = refl
length-numbers (suc count) bytes = ap suc (length-numbers count (drop 4 bytes))

-- the first number, and then the others
pub numbers_first : (count rest : ℕ) (bytes : List ℕ) → count ≡ rest + 1
    → numbers count bytes ≡ from_le_bytes w32 (take 4 bytes) ∷ numbers rest (drop 4 bytes)
unfolding numbers
numbers_first count rest bytes is = ap (λ (n : ℕ). numbers n bytes) (is ∙ add-one rest)

-- some numbers, and then the others
pub numbers-add : (m n : ℕ) (bytes : List ℕ) → numbers (m + n) bytes ≡ numbers m bytes ++ numbers n
    (drop (4 * m) bytes)
unfolding numbers
numbers-add zero n bytes = ap (λ (k : ℕ). numbers k bytes) (zero-add n)
numbers-add (suc m) n bytes =
    let more : suc m + n ≡ suc (m + n) = omega arith in
    let place : 4 + 4 * m ≡ 4 * suc m = omega arith in
    ap (λ (k : ℕ). numbers k bytes) more
    ∙ ap (λ (l : List ℕ). number_at 0 bytes ∷ l)
    (numbers-add m n (drop 4 bytes)
    ∙ ap (λ (l : List ℕ). numbers m (drop 4 bytes) ++ numbers n l)
    (drop-drop (4 * m) 4 bytes ∙ ap (λ (k : ℕ). drop k bytes) place))

-- each number stands at its place
pub slice_get-numbers : (count i : ℕ) (bytes : List ℕ) → i < count
    → slice_get (numbers count bytes) i ≡ Some (number_at (4 * i) bytes)
unfolding numbers
slice_get-numbers zero i bytes h = absurd (omega arith)
slice_get-numbers (suc count) zero bytes h = refl
slice_get-numbers (suc count) (suc i) bytes h =
    let place : 4 + 4 * i ≡ 4 * suc i = omega arith in
    slice_get-numbers count i (drop 4 bytes) (omega arith)
    ∙ ap (λ (l : List ℕ). Some (from_le_bytes w32 (take 4 l)))
    (drop-drop (4 * i) 4 bytes ∙ ap (λ (k : ℕ). drop k bytes) place)

-- the numbers stand in the front alone
pub numbers-take : (count n : ℕ) (bytes : List ℕ) → 4 * count ≤ n
    → numbers count (take n bytes) ≡ numbers count bytes
unfolding numbers
numbers-take zero n bytes h = refl
numbers-take (suc count) n bytes h =
    let rest : n ≡ 4 + (n - 4) = omega arith in
    let first : take 4 (take n bytes) ≡ take 4 bytes = take-take 4 n bytes (omega arith) in
    let more : drop 4 (take n bytes) ≡ take (n - 4) (drop 4 bytes) =
    ap (λ (k : ℕ). drop 4 (take k bytes)) rest ∙ drop-take 4 (n - 4) bytes in
    ap (λ (l : List ℕ). from_le_bytes w32 l ∷ numbers count (drop 4 (take n bytes))) first
    ∙ ap (λ (l : List ℕ). number_at 0 bytes ∷ l)
    (ap (numbers count) more ∙ numbers-take count (n - 4) (drop 4 bytes) (omega arith))
