-- The text of a rank, byte by byte.
use Rattle.std.proofs.Common.{◌≡◌, ℕ, ◌+◌, ◌<◌, ◌≤◌, true, false, List, [], ◌∷◌, ◌++◌, length, take, get_or, replicate, refl, ap, sym, ◌∙◌, arith}
use Rattle.std.proofs.lemmas.Bool.{and_left, and_right}
use Rattle.std.specs.Prelude.{◌==◌}
use Rattle.std.proofs.Common.{inl, inr}
use Rattle.std.specs.List.{list_all}
use Rattle.std.proofs.lemmas.Grind.{flat_map-append}
use Rattle.std.proofs.lemmas.List.{take_more, append-nil, take_all, length-replicate}
use Rattle.std.proofs.lemmas.List.Folds.{list_all_at, list_all_more, length-flat_map-take}
use Rattle.std.proofs.lemmas.Bool.Decides.{eqb_tells}
use Rattle.frz_fen.specs.Placement.{cells_of, rank_cells, is_gap_or_man, is_rank}

pub rank_cells-take : (part : List ℕ) (i : ℕ) → i < length part →
    rank_cells (take (i + 1) part) ≡ rank_cells (take i part) ++ cells_of (get_or part i 0)
rank_cells-take part i l =
    ap rank_cells (take_more part i 0 l)
    ∙ flat_map-append cells_of (take i part) (get_or part i 0 ∷ [])
    ∙ ap (λ xs. rank_cells (take i part) ++ xs) (append-nil (cells_of (get_or part i 0)))

pub bytes-take : (part : List ℕ) (i : ℕ) → i < length part →
    list_all is_gap_or_man (take i part) ≡ true → is_gap_or_man (get_or part i 0) ≡ true →
    list_all is_gap_or_man (take (i + 1) part) ≡ true
bytes-take part i l h k = list_all_more is_gap_or_man part i 0 l ∙ rw (h, k) refl

not_eight : (n : ℕ) → 8 < n → (n == 8) ≡ false
not_eight n l = elim (eqb_tells n 8) [ inl w ↦ (let e = w.1 in absurd (omega arith)) | inr w ↦ w.0 ]

other_length : (n : ℕ) → (n ≡ 8 → ⊥) → (n == 8) ≡ false
other_length n h = elim (eqb_tells n 8) [ inl w ↦ absurd (h w.1) | inr w ↦ w.0 ]

pub wrong_byte : (part : List ℕ) (i : ℕ) → i < length part →
    is_gap_or_man (get_or part i 0) ≡ false → is_rank part ≡ false
unfolding is_rank
wrong_byte part i l h =
    and_left (list_all is_gap_or_man part) (length (rank_cells part) == 8)
    (list_all_at is_gap_or_man part i 0 l h)

pub too_wide : (part : List ℕ) (i n cell : ℕ) → i < length part →
    cells_of (get_or part i 0) ≡ replicate n cell → 8 < length (rank_cells (take i part)) + n →
    is_rank part ≡ false
unfolding is_rank
too_wide part i n cell l e h =
    and_right (list_all is_gap_or_man part) (length (rank_cells part) == 8)
    (not_eight (length (rank_cells part))
    (let k = length-flat_map-take cells_of part i 0 l in
    let m : length (cells_of (get_or part i 0)) ≡ n = ap length e ∙ length-replicate n cell in
    omega arith))

whole_rank : (part : List ℕ) → list_all is_gap_or_man part ≡ true → length (rank_cells part) ≡ 8 →
    is_rank part ≡ true
unfolding is_rank
whole_rank part h e = rw (h, e) refl

-- after the last byte
pub ends_whole : (part row : List ℕ) (i : ℕ) → length part ≤ i → row ≡ rank_cells (take i part) →
    list_all is_gap_or_man (take i part) ≡ true → length row ≡ 8 →
    (is_rank part ≡ true) × (row ≡ rank_cells part)
ends_whole part row i l e h k =
    let all : take i part ≡ part = take_all i part l in
    let same : row ≡ rank_cells part = e ∙ ap rank_cells all in
    (whole_rank part (ap (list_all is_gap_or_man) (sym all) ∙ h) (ap length (sym same) ∙ k), same)

pub ends_short : (part row : List ℕ) (i : ℕ) → length part ≤ i → row ≡ rank_cells (take i part) →
    (length row ≡ 8 → ⊥) → is_rank part ≡ false
unfolding is_rank
ends_short part row i l e h =
    let same : row ≡ rank_cells part = e ∙ ap rank_cells (take_all i part l) in
    and_right (list_all is_gap_or_man part) (length (rank_cells part) == 8)
    (other_length (length (rank_cells part)) (λ k. h (ap length same ∙ k)))

-- the cells with one more byte
pub row_more : (part row : List ℕ) (i n cell : ℕ) → i < length part →
    row ≡ rank_cells (take i part) → cells_of (get_or part i 0) ≡ replicate n cell →
    row ++ replicate n cell ≡ rank_cells (take (i + 1) part)
row_more part row i n cell l e k =
    ap (λ xs. xs ++ replicate n cell) e
    ∙ (ap (λ xs. rank_cells (take i part) ++ xs) (sym k) ∙ sym (rank_cells-take part i l))

pub ruleset reading_rank = (wrong_byte, too_wide, ends_whole, ends_short, row_more, bytes-take)
