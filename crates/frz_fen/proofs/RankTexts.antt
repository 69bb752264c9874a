-- The text of a rank, and that it stands for the rank.
use Rattle.std.proofs.Common.{◌≡◌, ℕ, zero, suc, ◌+◌, ◌-◌, ◌<◌, ◌≤◌, Bool, true, false, cond, ◌&&◌, not, List, [], ◌∷◌, ◌++◌, length, replicate, drop, get_or, refl, ap, sym, subst, ◌∙◌, arith, append_assoc, inl, inr}
use Rattle.std.specs.Prelude.{◌==◌, nat_lt, nat_le, is_some, unwrap_or}
use Rattle.std.specs.List.{list_all, range_with_len}
use Rattle.std.proofs.lemmas.Bool.{ltb-true, eqb-true, le-leb, leb-true, eq-eqb, and_parts, and_from, not-true}
use Rattle.std.proofs.lemmas.Bool.Decides.{eqb_tells}
use Rattle.std.proofs.lemmas.Grind.{replicate_next}
use Rattle.std.proofs.lemmas.List.{append-nil, length-replicate, length-append, drop_all}
use Rattle.frz_squares.proofs.Lemmas.{either_or, all_at}
use Rattle.frz_fen.specs.Placement.{cells_of, is_gap, is_gap_or_man, is_rank, cell_of_letter, rank_cells}
use Rattle.frz_fen.specs.Writing.{gap_text, letter_of, rank_text, with_gap}

-- each man's letter is read as the man
abbrev is_letter_right : ℕ → Bool
is_letter_right c =
    (nat_lt (letter_of c) 128 && not (is_gap (letter_of c)))
    && (is_some (cell_of_letter (letter_of c)) && (unwrap_or (cell_of_letter (letter_of c)) 1 == c))

letters_right : list_all is_letter_right (range_with_len 1 12) ≡ true
letters_right = refl

letter_right : (c : ℕ) → 0 < c → c < 13 → is_letter_right c ≡ true
letter_right c l m = all_at is_letter_right 1 12 letters_right c (omega arith) (omega arith)

pub letter-ascii : (c : ℕ) → 0 < c → c < 13 → letter_of c < 128
letter-ascii c l m =
    ltb-true (letter_of c) 128
    (and_parts (nat_lt (letter_of c) 128) (not (is_gap (letter_of c)))
    (and_parts (nat_lt (letter_of c) 128 && not (is_gap (letter_of c)))
    (is_some (cell_of_letter (letter_of c)) && (unwrap_or (cell_of_letter (letter_of c)) 1 == c))
    (letter_right c l m)).0).0

letter-gap : (c : ℕ) → 0 < c → c < 13 → is_gap (letter_of c) ≡ false
letter-gap c l m =
    not-true (is_gap (letter_of c))
    (and_parts (nat_lt (letter_of c) 128) (not (is_gap (letter_of c)))
    (and_parts (nat_lt (letter_of c) 128 && not (is_gap (letter_of c)))
    (is_some (cell_of_letter (letter_of c)) && (unwrap_or (cell_of_letter (letter_of c)) 1 == c))
    (letter_right c l m)).0).1

letter-man : (c : ℕ) → 0 < c → c < 13 →
    (is_some (cell_of_letter (letter_of c)) ≡ true)
    × ((unwrap_or (cell_of_letter (letter_of c)) 1 == c) ≡ true)
letter-man c l m =
    and_parts (is_some (cell_of_letter (letter_of c)))
    (unwrap_or (cell_of_letter (letter_of c)) 1 == c)
    (and_parts (nat_lt (letter_of c) 128 && not (is_gap (letter_of c)))
    (is_some (cell_of_letter (letter_of c)) && (unwrap_or (cell_of_letter (letter_of c)) 1 == c))
    (letter_right c l m)).1

letter-cells : (c : ℕ) → 0 < c → c < 13 → cells_of (letter_of c) ≡ c ∷ []
letter-cells c l m =
    ap (λ (x : Bool). cond x (replicate (letter_of c - 48) 0)
    (unwrap_or (cell_of_letter (letter_of c)) 1 ∷ [])) (letter-gap c l m)
    ∙ ap (λ n. n ∷ [])
    (eqb-true (unwrap_or (cell_of_letter (letter_of c)) 1) c (letter-man c l m).1)

-- whether a text begins with a digit
abbrev pub begins_gap : List ℕ → Bool
begins_gap [] = false
begins_gap (b ∷ bs) = is_gap b

fresh_gap : (text : List ℕ) → begins_gap text ≡ false → with_gap text ≡ 49 ∷ text
fresh_gap [] h = refl
fresh_gap (b ∷ bs) h = rw h refl

digit_is_gap : (b : ℕ) → 49 ≤ b → b ≤ 56 → is_gap b ≡ true
digit_is_gap b l m = and_from (nat_le 49 b) (nat_le b 56) (le-leb 49 b l) (le-leb b 56 m)

not_zero : (n : ℕ) → 0 < n → (n == 0) ≡ false
not_zero n l = elim (eqb_tells n 0) [ inl w ↦ (let e = w.1 in absurd (omega arith)) | inr w ↦ w.0 ]

gap_text-some : (n : ℕ) → 0 < n → gap_text n ≡ (48 + n) ∷ []
gap_text-some n l = rw (not_zero n l) refl

gap_grows : (n : ℕ) (text : List ℕ) → n ≤ 7 → begins_gap text ≡ false →
    with_gap (gap_text n ++ text) ≡ gap_text (suc n) ++ text
gap_grows zero text l h = fresh_gap text h
gap_grows (suc n) text l h =
    ap (λ xs. with_gap (xs ++ text)) (gap_text-some (suc n) (omega arith))
    ∙ ap (λ (x : Bool). cond x ((48 + suc n + 1) ∷ text) (49 ∷ (48 + suc n) ∷ text))
    (digit_is_gap (48 + suc n) (omega arith) (omega arith))
    ∙ ap (λ d. d ∷ text) (more n)
    ∙ ap (λ xs. xs ++ text) (sym (gap_text-some (suc (suc n)) (omega arith)))
  where
    more : (k : ℕ) → 48 + suc k + 1 ≡ 48 + suc (suc k)
    more k = omega arith

-- empty squares before a text that begins with no digit
pub gaps_first : (n : ℕ) (cells : List ℕ) → n ≤ 8 → begins_gap (rank_text cells) ≡ false →
    rank_text (replicate n 0 ++ cells) ≡ gap_text n ++ rank_text cells
gaps_first zero cells l h = refl
gaps_first (suc n) cells l h =
    ap with_gap (gaps_first n cells (omega arith) h) ∙ gap_grows n (rank_text cells) (omega arith) h

pub man_first : (cell : ℕ) (cells : List ℕ) → 0 < cell →
    rank_text (cell ∷ cells) ≡ letter_of cell ∷ rank_text cells
man_first cell cells l = rw (not_zero cell l) refl

man_begins : (cell : ℕ) (cells : List ℕ) → 0 < cell → cell < 13 →
    begins_gap (rank_text (cell ∷ cells)) ≡ false
man_begins cell cells l m = ap begins_gap (man_first cell cells l) ∙ letter-gap cell l m

-- a gap ends at a man, or at the end of the rank
pub gap_and_man : (old : List ℕ) (n cell : ℕ) (cells : List ℕ) → n ≤ 8 → 0 < cell → cell < 13 →
    old ++ rank_text (replicate n 0 ++ cell ∷ cells)
    ≡ ((old ++ gap_text n) ++ letter_of cell ∷ []) ++ rank_text cells
gap_and_man old n cell cells l m k =
    ap (λ xs. old ++ xs)
    (gaps_first n (cell ∷ cells) l (man_begins cell cells m k) ∙ ap (λ xs. gap_text n ++ xs)
    (man_first cell cells m))
    ∙ sym (append_assoc old (gap_text n) (letter_of cell ∷ rank_text cells))
    ∙ sym (append_assoc (old ++ gap_text n) (letter_of cell ∷ []) (rank_text cells))

pub gap_at_end : (n : ℕ) → n ≤ 8 → rank_text (replicate n 0 ++ []) ≡ gap_text n
gap_at_end n l = gaps_first n [] l refl ∙ append-nil (gap_text n)

pub gap_more : (old : List ℕ) (n : ℕ) (cells : List ℕ) →
    old ++ rank_text (replicate n 0 ++ 0 ∷ cells) ≡ old ++ rank_text (replicate (n + 1) 0 ++ cells)
gap_more old n cells =
    ap (λ xs. old ++ rank_text xs)
    (sym (append_assoc (replicate n 0) (0 ∷ []) cells) ∙ ap (λ xs. xs ++ cells)
    (sym (replicate_next n 0)))

-- the rest of a rank after the last gap
pub rank_ends : (old text row : List ℕ) (n i : ℕ) → n ≤ 8 → length row ≤ i →
    text ++ rank_text (replicate n 0 ++ drop i row) ≡ old ++ rank_text row →
    text ++ gap_text n ≡ old ++ rank_text row
rank_ends old text row n i l m e =
    ap (λ xs. text ++ xs) (sym (gap_at_end n l))
    ∙ ap (λ xs. text ++ rank_text (replicate n 0 ++ xs)) (sym (drop_all i row m))
    ∙ e

pub gap_bounds : (b : ℕ) → is_gap b ≡ true → (49 ≤ b) × (b ≤ 56)
gap_bounds b h =
    let parts = and_parts (nat_le 49 b) (nat_le b 56) h in
    (leb-true 49 b parts.0, leb-true b 56 parts.1)

pub gap_cells : (b : ℕ) → is_gap b ≡ true → cells_of b ≡ replicate (b - 48) 0
gap_cells b h =
    ap (λ (x : Bool). cond x (replicate (b - 48) 0) (unwrap_or (cell_of_letter b) 1 ∷ [])) h

-- a digit that stands for at most 7 squares has a next one
pub next_digit : (b : ℕ) (bs : List ℕ) → is_gap b ≡ true → length (rank_cells (b ∷ bs)) ≤ 7 →
    is_gap (b + 1) ≡ true
next_digit b bs h l =
    let bounds = gap_bounds b h in
    let low = bounds.0 in
    let size : length (cells_of b) ≡ b - 48 = ap length (gap_cells b h)
    ∙ length-replicate (b - 48) 0 in
    let whole : length (cells_of b ++ rank_cells bs) ≡ length (cells_of b) + length
    (rank_cells bs) = length-append (cells_of b) (rank_cells bs) in
    digit_is_gap (b + 1) (omega arith) (omega arith)

longer_gap : (b : ℕ) → is_gap b ≡ true → is_gap (b + 1) ≡ true → cells_of (b + 1) ≡ 0 ∷ cells_of b
longer_gap b h k =
    let bounds = gap_bounds b h in
    let low = bounds.0 in
    let more : b + 1 - 48 ≡ suc (b - 48) = omega arith in
    gap_cells (b + 1) k ∙ ap (λ n. replicate n 0) more ∙ ap (λ xs. 0 ∷ xs) (sym (gap_cells b h))

-- one more empty square in front of at most 7
one_more_cells : (x : Bool) (b : ℕ) (bs : List ℕ) → is_gap b ≡ x →
    length (rank_cells (b ∷ bs)) ≤ 7 →
    rank_cells (cond x ((b + 1) ∷ bs) (49 ∷ b ∷ bs)) ≡ 0 ∷ rank_cells (b ∷ bs)
one_more_cells true b bs h l = ap (λ xs. xs ++ rank_cells bs) (longer_gap b h (next_digit b bs h l))
one_more_cells false b bs h l = refl

with_gap-cells : (text : List ℕ) → length (rank_cells text) ≤ 7 →
    rank_cells (with_gap text) ≡ 0 ∷ rank_cells text
with_gap-cells [] l = refl
with_gap-cells (b ∷ bs) l = one_more_cells (is_gap b) b bs refl l

gap_right : (b : ℕ) → is_gap b ≡ true → is_gap_or_man b ≡ true
gap_right b h = rw h refl

one_more_right : (x : Bool) (b : ℕ) (bs : List ℕ) → is_gap b ≡ x →
    length (rank_cells (b ∷ bs)) ≤ 7 → list_all is_gap_or_man (b ∷ bs) ≡ true →
    list_all is_gap_or_man (cond x ((b + 1) ∷ bs) (49 ∷ b ∷ bs)) ≡ true
one_more_right true b bs h l e =
    and_from (is_gap_or_man (b + 1)) (list_all is_gap_or_man bs)
    (gap_right (b + 1) (next_digit b bs h l))
    (and_parts (is_gap_or_man b) (list_all is_gap_or_man bs) e).1
one_more_right false b bs h l e = e

with_gap-right : (text : List ℕ) → length (rank_cells text) ≤ 7 →
    list_all is_gap_or_man text ≡ true → list_all is_gap_or_man (with_gap text) ≡ true
with_gap-right [] l e = refl
with_gap-right (b ∷ bs) l e = one_more_right (is_gap b) b bs refl l e

-- each cell is empty or a man's
abbrev pub AreCells : List ℕ → Type 0
AreCells cells = (i : ℕ) → i < length cells → get_or cells i 0 < 13

-- the text of at most eight cells is right and stands for them
pub record Reads (squares text : List ℕ) : Type 0 where
  pub cells : rank_cells text ≡ squares
  pub right : list_all is_gap_or_man text ≡ true

reads_empty : (cells : List ℕ) → length cells ≤ 7 → Reads cells (rank_text cells) →
    Reads (0 ∷ cells) (rank_text (0 ∷ cells))
reads_empty cells l r =
    let few : length (rank_cells (rank_text cells)) ≤ 7 = subst (λ xs. length xs ≤ 7) (sym r.cells)
    l in
    record {
      cells = with_gap-cells (rank_text cells) few ∙ ap (λ xs. 0 ∷ xs) r.cells;
      right = with_gap-right (rank_text cells) few r.right;
    }

reads_man : (cell : ℕ) (cells : List ℕ) → 0 < cell → cell < 13 → Reads cells (rank_text cells) →
    Reads (cell ∷ cells) (rank_text (cell ∷ cells))
reads_man cell cells l m r =
    record {
      cells = ap rank_cells (man_first cell cells l)
          ∙ ap (λ xs. xs ++ rank_cells (rank_text cells)) (letter-cells cell l m)
          ∙ ap (λ xs. cell ∷ xs) r.cells;
      right =
          ap (list_all is_gap_or_man) (man_first cell cells l)
          ∙ and_from (is_gap_or_man (letter_of cell)) (list_all is_gap_or_man (rank_text cells))
          (either_or (is_gap (letter_of cell)) (is_some (cell_of_letter (letter_of cell)))
          (inr (letter-man cell l m).0)) r.right;
    }

pub rank_reads : (cells : List ℕ) → length cells ≤ 8 → AreCells cells →
    Reads cells (rank_text cells)
rank_reads [] l h = record { cells = refl; right = refl }
rank_reads (cell ∷ cells) l h =
    let rest = rank_reads cells (omega arith) (λ i m. h (suc i) (omega arith)) in
    elim (eqb_tells cell 0) [
      | inl w ↦
          subst (λ c. Reads (c ∷ cells) (rank_text (c ∷ cells))) (sym w.1)
          (reads_empty cells (omega arith) rest)
      | inr w ↦ reads_man cell cells (let ne = w.1 in omega arith) (h 0 (omega arith)) rest
    ]

pub is_rank-text : (cells : List ℕ) → length cells ≡ 8 → AreCells cells →
    is_rank (rank_text cells) ≡ true
unfolding is_rank
is_rank-text cells l h =
    let r = rank_reads cells (omega arith) h in
    and_from (list_all is_gap_or_man (rank_text cells)) (length (rank_cells (rank_text cells)) == 8)
    r.right
    (eq-eqb (length (rank_cells (rank_text cells))) 8 (ap length r.cells ∙ l))
