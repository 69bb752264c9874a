-- Digits of a group, as the code finds them.
use Rattle.std.proofs.Common.{◌≡◌, ℕ, zero, suc, ◌+◌, ◌-◌, ◌<◌, ◌≤◌, List, get_or, slice_set, [], length, true, false, cond, ◌⊎◌, inl, inr, refl, ap, sym, ◌∙◌, subst, arith}
use Rattle.std.specs.Prelude.{Some, ◌==◌, nat_lt, slice_index}
use Rattle.std.proofs.lemmas.Bool.Decides.{nat_tests}
use Rattle.std.specs.List.{slice_get}
use Rattle.std.proofs.lemmas.Option.{slice_get_read, same_Some}
use Rattle.frz_board.specs.Men.{cell_of_man}
use Rattle.frz_board.specs.declared.man.Colour.{Colour}
use Rattle.frz_board.specs.declared.man.Kind.{Kind}
use Rattle.frz_combinations.proofs.Lemmas.{digit_below}
use Rattle.frz_combinations.specs.Binomials.{capped, choose}
use Rattle.frz_combinations.specs.Combinations.{AreDescending, rank, unrank}
use Rattle.frz_combinations.specs.Selections.{choices, count_and_rank, digit, radix}
use Rattle.frz_board.specs.Boards.{Board}
use Rattle.frz_combinations.proofs.Lemmas.{places_descend}
use Rattle.frz_sets.specs.Views.{GroupLine}
use Rattle.frz_sets.specs.Sets.{radix_of}
use Rattle.frz_index.specs.Places.{IsWithinCount, digit_of, places, places_among, stands}
use Rattle.frz_index.specs.Candidates.{put_man}
use Rattle.frz_index.specs.FreeSquares.{is_free}

pub offset_step : (s i n sum : ℕ) → i < n →
    capped (capped (sum + capped (choose s i)) + choices s (i + 1) (n - (i + 1)))
    ≡ capped (sum + choices s i (n - i))
offset_step s i n sum h =
    let e : n - i ≡ suc (n - (i + 1)) = omega arith in
    let one : i + 1 ≡ suc i = omega arith in
    let all : choices s i (n - i) ≡ choose s i + choices s (i + 1) (n - (i + 1)) = ap (choices s i)
    e ∙ ap (λ j. choose s i + choices s j (n - (i + 1))) (sym one) in
    omega (arith, all)

pub offset_done : (s i n sum : ℕ) → n ≤ i → capped (sum + choices s i (n - i)) ≡ capped sum
offset_done s i n sum h =
    let e : n - i ≡ 0 = omega arith in ap (λ k. capped (sum + choices s i k)) e
    ∙ ap capped (omega arith)

pub offset_end : (s i n sum : ℕ) → sum ≤ 18446744073709551615 → n ≤ i →
    sum ≡ capped (sum + choices s i (n - i))
offset_end s i n sum fits h = let e = offset_done s i n sum h in omega arith

pub digit_exact : (s l m : ℕ) (cs : List ℕ) → AreDescending s cs → l ≤ length cs → length cs ≤ m →
    radix s l m ≤ 134217728 → (a b : ℕ) → a ≡ capped (choices s l (length cs - l)) →
    b ≡ capped (rank cs) → (a + b ≡ digit s l cs) × (a + b < 134217728)
digit_exact s l m cs d lo hi size a b e f =
    let below = digit_below s l m cs d lo hi in
    (omega arith, omega arith)

-- the number of men, step by step
pub men_step : (s j m r : ℕ) → j < m → choose s j ≤ r →
    count_and_rank s (j + 1) (m - (j + 1)) (r - choose s j) ≡ count_and_rank s j (m - j) r
men_step s j m r h k =
    let e : m - j ≡ suc (m - (j + 1)) = omega arith in
    let one : j + 1 ≡ suc j = omega arith in
    let test : nat_lt r (choose s j) ≡ false = grind (arith, nat_tests) in
    sym (ap (λ n. count_and_rank s j n r) e
    ∙ ap (λ b. cond b (j, r) (count_and_rank s (suc j) (m - (j + 1)) (r - choose s j))) test
    ∙ ap (λ i. count_and_rank s i (m - (j + 1)) (r - choose s j)) (sym one))

pub men_stop : (s j m r : ℕ) → j < m → r < choose s j → (j, r) ≡ count_and_rank s j (m - j) r
men_stop s j m r h k =
    let e : m - j ≡ suc (m - (j + 1)) = omega arith in
    let test : nat_lt r (choose s j) ≡ true = grind (arith, nat_tests) in
    sym (ap (λ n. count_and_rank s j n r) e
    ∙ ap (λ b. cond b (j, r) (count_and_rank s (suc j) (m - (j + 1)) (r - choose s j))) test)

pub men_end : (s j m r : ℕ) → m ≤ j → (j, r) ≡ count_and_rank s j (m - j) r
men_end s j m r h = let e : m - j ≡ 0 = omega arith in sym (ap (λ n. count_and_rank s j n r) e)

-- no places are left to find
pub unrank_done : (n j r : ℕ) → (n ≡ 0) ⊎ (j ≡ 0) → unrank n j r ≡ []
unrank_done zero j r h = refl
unrank_done (suc n) zero r h = refl
unrank_done (suc n) (suc j) r (inl e) = absurd (omega arith)
unrank_done (suc n) (suc j) r (inr e) = absurd (omega arith)

pub uncapped : (w c r : ℕ) → w ≡ capped c → w ≤ r → r < 4294967296 → w ≡ c
uncapped w c r e h k = omega arith

-- what is written is the man of the state that was read
pub put_read : (c : Colour) (states : List (Kind × ℕ)) (k : ℕ) (cells : List ℕ) (a b : Kind × ℕ)
    (s v : ℕ) → k < length states → a ≡ get_or states k a → b ≡ get_or states k b
    → v ≡ cell_of_man (record { colour = c; kind = (get_or states k a).0 })
    → s ≡ (get_or states k b).1 → slice_set cells s v ≡ put_man c (slice_get states k) cells
put_read c states k cells a b s v h ea eb ev' es' =
    let ev : v ≡ cell_of_man (record { colour = c; kind = a.0 }) = ev'
    ∙ ap (λ (y : Kind × ℕ). cell_of_man (record { colour = c; kind = y.0 })) (sym ea) in
    let es : s ≡ b.1 = es' ∙ ap (λ (y : Kind × ℕ). y.1) (sym eb) in
    let at_a = slice_get_read states (length states) k a refl h ea in
    let at_b = slice_get_read states (length states) k b refl h eb in
    let same : a ≡ b = same_Some a b (sym at_a ∙ at_b) in
    ap (λ x. slice_set cells x v) (es ∙ ap (λ (y : Kind × ℕ). y.1) (sym same))
    ∙ ap (λ x. slice_set cells a.1 x) ev ∙ sym (ap (λ o. put_man c o cells) at_a)

-- the square that was read is free exactly if it is empty
pub free_read : (states : List (Kind × ℕ)) (k : ℕ) (cells : List ℕ) (b : Kind × ℕ) (s : ℕ) →
    k < length states → b ≡ get_or states k b → s ≡ (get_or states k b).1 →
    is_free (slice_get states k) cells ≡ (slice_index cells s == 0)
free_read states k cells b s h e is =
    let at : slice_get states k ≡ Some b = slice_get_read states (length states) k b refl h e in
    let square : b.1 ≡ s = ap (λ (y : Kind × ℕ). y.1) e ∙ sym is in
    ap (λ o. is_free o cells) at ∙ ap (λ x. slice_index cells x == 0) square

-- the sum of two capped parts is the group's digit
pub record IsDigit (p : Board) (g : GroupLine) (sum : ℕ) : Type 0 where
  pub counted : IsWithinCount p g
  pub sum_is : sum ≡ digit_of p g
  pub small : sum < 134217728

-- so many men of this colour at these states, and their places' rank
abbrev pub IsCount : Board → Colour → List (Kind × ℕ) → ℕ → ℕ × ℕ → Type 0
IsCount p c states most x =
    let cs = places_among p c states (length states) in
    (x.0 ≡ length cs) × (x.0 ≤ most) × (x.1 ≡ capped (rank cs))

digit_at : (p : Board) (g : GroupLine) (n a b : ℕ) → radix_of g ≤ 134217728 →
    IsCount p g.colour g.states g.most (n, b) → g.least ≤ n →
    a ≡ capped (choices (length g.states) g.least (n - g.least)) → IsDigit p g (a + b)
digit_at p g n a b size h lo e =
    let least : g.least ≤ length (places p g) = omega (arith, h.0) in
    let most : length (places p g) ≤ g.most = omega (arith, h.0, h.1) in
    let falling = places_descend (λ k. stands p g.colour (slice_get g.states k))
    (length g.states) in
    let f = digit_exact (length g.states) g.least g.most (places p g) falling least most size a b
    (e ∙ ap (λ k. capped (choices (length g.states) g.least (k - g.least))) h.0) h.2 in
    record { counted = record { least = least; most = most }; sum_is = f.0; small = f.1 }

-- the digit of a group whose fields were read
pub digit_read : (p : Board) (v g : GroupLine) (slice : List (Kind × ℕ)) (n a b : ℕ) → v ≡ g →
    slice ≡ v.states → radix_of g ≤ 134217728 → IsCount p v.colour slice v.most (n, b) →
    v.least ≤ n → a ≡ capped (choices (length v.states) v.least (n - v.least)) → IsDigit p g (a + b)
digit_read p v g slice n a b same read size h lo e =
    let Count : List (Kind × ℕ) → Type 0 = λ states. IsCount p v.colour states v.most (n, b) in
    let Size : GroupLine → Type 0 = λ x. radix_of x ≤ 134217728 in
    let Goal : GroupLine → Type 0 = λ x. IsDigit p x (a + b) in
    subst Goal same (digit_at p v n a b (subst Size (sym same) size) (subst Count read h) lo e)

pub count_read : (p : Board) (v g : GroupLine) (slice : List (Kind × ℕ)) → v ≡ g →
    slice ≡ v.states → places_among p v.colour slice (length slice) ≡ places p g
count_read p v g slice same read =
    ap (λ states. places_among p v.colour states (length states)) read ∙ ap (places p) same
