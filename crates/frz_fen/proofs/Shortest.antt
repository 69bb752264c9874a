-- The text of a rank is the shortest that stands for it.
use Rattle.std.proofs.Common.{◌≡◌, ℕ, zero, suc, ◌+◌, ◌-◌, ◌<◌, ◌≤◌, Bool, true, false, cond, List, [], ◌∷◌, ◌++◌, length, replicate, refl, ap, sym, subst, ◌∙◌, arith, lit<, Option, None, Some}
use Rattle.std.specs.Prelude.{◌==◌, unwrap_or, option_map}
use Rattle.std.specs.List.{list_all}
use Rattle.std.proofs.lemmas.Bool.{eqb-true, and_parts}
use Rattle.std.proofs.lemmas.List.{length-replicate, length-append}
use Rattle.std.proofs.lemmas.List.Elements.{All-get_or}
use Rattle.frz_board.specs.declared.man.Man.{Man}
use Rattle.frz_board.specs.Men.{cell_of_man, man_of_letter}
use Rattle.frz_board.proofs.Lemmas.{cell-some}
use Rattle.frz_fen.specs.Placement.{cells_of, is_gap, is_gap_or_man, is_rank, cell_of_letter, rank_cells}
use Rattle.frz_fen.specs.Writing.{rank_text, with_gap}
use Rattle.frz_fen.proofs.Placing.{rank_fits}
use Rattle.frz_fen.proofs.RankTexts.{AreCells, begins_gap, gap_bounds, gap_cells, man_first, next_digit, rank_reads}

first_begins : (x : Bool) (b : ℕ) (bs : List ℕ) → is_gap b ≡ x → length (rank_cells (b ∷ bs)) ≤ 7 →
    begins_gap (cond x ((b + 1) ∷ bs) (49 ∷ b ∷ bs)) ≡ true
first_begins true b bs h l = next_digit b bs h l
first_begins false b bs h l = refl

with_gap-begins : (text : List ℕ) → length (rank_cells text) ≤ 7 → begins_gap (with_gap text) ≡ true
with_gap-begins [] l = refl
with_gap-begins (b ∷ bs) l = first_begins (is_gap b) b bs refl l

length-with_gap : (text : List ℕ) → length (with_gap text) ≤ suc (length text)
length-with_gap [] = omega arith
length-with_gap (b ∷ bs) = either (is_gap b)
  where
    either : (x : Bool) → length (cond x ((b + 1) ∷ bs) (49 ∷ b ∷ bs)) ≤ suc (length (b ∷ bs))
    either true = omega arith
    either false = omega arith

length-with_gap_more : (text : List ℕ) → begins_gap text ≡ true →
    length (with_gap text) ≡ length text
length-with_gap_more [] h = absurd cc
length-with_gap_more (b ∷ bs) h = ap (λ (x : Bool). length (cond x ((b + 1) ∷ bs) (49 ∷ b ∷ bs))) h

empties_fit : (n : ℕ) (cells : List ℕ) → AreCells cells → AreCells (replicate n 0 ++ cells)
empties_fit zero cells h i l = h i l
empties_fit (suc n) cells h zero l = lit< tt
empties_fit (suc n) cells h (suc i) l = empties_fit n cells h i (omega arith)

length-empties : (n : ℕ) (cells : List ℕ) → length (replicate n 0 ++ cells) ≡ n + length cells
length-empties n cells =
    length-append (replicate n 0) cells ∙ ap (λ k. k + length cells) (length-replicate n 0)

few_cells : (n : ℕ) (cells : List ℕ) → AreCells cells → n + length cells ≤ 7 →
    length (rank_cells (rank_text (replicate n 0 ++ cells))) ≤ 7
few_cells n cells h l =
    let size = length-empties n cells in
    let r = rank_reads (replicate n 0 ++ cells) (omega arith) (empties_fit n cells h) in
    subst (λ xs. length xs ≤ 7) (sym r.cells) (omega arith)

-- a gap takes one digit
one_digit : (n : ℕ) (cells : List ℕ) → AreCells cells → suc n + length cells ≤ 8 →
    length (rank_text (replicate (suc n) 0 ++ cells)) ≤ suc (length (rank_text cells))
one_digit zero cells h l = length-with_gap (rank_text cells)
one_digit (suc n) cells h l =
    let begins : begins_gap (rank_text (replicate (suc n) 0 ++ cells)) ≡ true =
    with_gap-begins (rank_text (replicate n 0 ++ cells)) (few_cells n cells h (omega arith)) in
    let same : length (with_gap (rank_text (replicate (suc n) 0 ++ cells))) ≡ length
    (rank_text (replicate (suc n) 0 ++ cells)) =
    length-with_gap_more (rank_text (replicate (suc n) 0 ++ cells)) begins in
    let rest = one_digit n cells h (omega arith) in
    omega arith

cells_right : (part : List ℕ) → AreCells (rank_cells part)
cells_right part i l = All-get_or (λ x. x < 13) (rank_cells part) i 0 l (rank_fits part)

letter_stands : (o : Option Man) → 0 < unwrap_or (option_map cell_of_man o) 1
letter_stands None = lit< tt
letter_stands (Some m) = cell-some m.colour m.kind

byte_case : (x : Bool) (b : ℕ) (bs : List ℕ) → is_gap b ≡ x → length (rank_cells (b ∷ bs)) ≤ 8 →
    length (rank_text (rank_cells bs)) ≤ length bs →
    length (rank_text (rank_cells (b ∷ bs))) ≤ suc (length bs)
byte_case true b bs h l e =
    let bounds = gap_bounds b h in
    let low = bounds.0 in
    let some : b - 48 ≡ suc (b - 49) = omega arith in
    let gap : cells_of b ≡ replicate (suc (b - 49)) 0 = gap_cells b h
    ∙ ap (λ n. replicate n 0) some in
    let size : length (cells_of b ++ rank_cells bs) ≡ suc (b - 49) + length (rank_cells bs) =
    ap (λ xs. length (xs ++ rank_cells bs)) gap ∙ length-empties (suc (b - 49)) (rank_cells bs) in
    let whole : length (cells_of b ++ rank_cells bs) ≤ 8 = l in
    let digit = one_digit (b - 49) (rank_cells bs) (cells_right bs) (omega arith) in
    let text : length (rank_text (cells_of b ++ rank_cells bs)) ≡ length
    (rank_text (replicate (suc (b - 49)) 0 ++ rank_cells bs)) =
    ap (λ xs. length (rank_text (xs ++ rank_cells bs))) gap in
    omega arith
byte_case false b bs h l e =
    let man : cells_of b ≡ unwrap_or (cell_of_letter b) 1 ∷ [] =
    ap (λ (x : Bool). cond x (replicate (b - 48) 0) (unwrap_or (cell_of_letter b) 1 ∷ [])) h in
    let text : length (rank_text (cells_of b ++ rank_cells bs)) ≡ suc
    (length (rank_text (rank_cells bs))) =
    ap (λ xs. length (rank_text (xs ++ rank_cells bs))) man
    ∙ ap length (man_first (unwrap_or (cell_of_letter b) 1) (rank_cells bs)
    (letter_stands (man_of_letter b))) in
    omega arith

pub shortest : (part : List ℕ) → length (rank_cells part) ≤ 8 →
    length (rank_text (rank_cells part)) ≤ length part
shortest [] l = omega arith
shortest (b ∷ bs) l =
    let whole : length (cells_of b ++ rank_cells bs) ≡ length (cells_of b) + length
    (rank_cells bs) = length-append (cells_of b) (rank_cells bs) in
    byte_case (is_gap b) b bs refl l (shortest bs (omega arith))

pub rank_shortest : (part : List ℕ) → is_rank part ≡ true →
    length (rank_text (rank_cells part)) ≤ length part
unfolding is_rank
rank_shortest part h =
    let e = eqb-true (length (rank_cells part)) 8
    (and_parts (list_all is_gap_or_man part) (length (rank_cells part) == 8) h).1 in
    shortest part (omega arith)
