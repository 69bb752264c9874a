-- The text of a position, and the fields that it is cut into.
use Rattle.std.proofs.Common.{◌≡◌, ℕ, zero, suc, ◌+◌, ◌-◌, ◌*◌, ◌<◌, Bool, true, false, not, List, ◌∷◌, [], ◌++◌, length, take, drop, refl, ap, sym, ◌∙◌, arith, append_assoc, None, inl, inr}
use Rattle.std.specs.Prelude.{◌==◌, cond}
use Rattle.std.specs.List.{list_all, filter, All}
use Rattle.std.proofs.lemmas.List.Elements.{All-get_or, All-take, All-drop}
use Rattle.std.proofs.Math.Seq.{take-add}
use Rattle.std.proofs.lemmas.Bool.{eq-eqb, and_parts, and_from, not-true}
use Rattle.std.proofs.lemmas.Bool.Decides.{eqb_tells}
use Rattle.std.proofs.lemmas.List.Folds.{list_all-append}
use Rattle.std.proofs.Common.{lit<, length-drop}
use Rattle.std.proofs.lemmas.List.{length-take, take_all}
use Rattle.frz_board.specs.Boards.{Board}
use Rattle.frz_words.specs.Parts.{split, with_first}
use Rattle.frz_fen.specs.Fields.{fields}
use Rattle.frz_words.specs.Words.{has_bytes}
use Rattle.frz_fen.specs.Placement.{is_gap_or_man, rank_cells, ranks, wrong_rank, board_cells}
use Rattle.frz_fen.specs.Writing.{fen_text, placement_text, ranks_text, rank_text, row, turn_text, target_text}
use Rattle.frz_fen.proofs.RankTexts.{AreCells, rank_reads, is_rank-text}
use Rattle.frz_fen.proofs.Placing.{board_cells-cons}

-- the writer puts the parts one after the other
pub fen_written : (p : Board) (b1 b2 b3 b4 b5 b6 b7 b8 b9 b10 b11 : List ℕ) →
    b1 ≡ placement_text p.cells → b2 ≡ b1 ++ 32 ∷ [] → b3 ≡ b2 ++ turn_text p.turn →
    b4 ≡ b3 ++ 32 ∷ [] → b5 ≡ b4 ++ 45 ∷ [] → b6 ≡ b5 ++ 32 ∷ [] → b7 ≡ b6 ++ target_text p.ep →
    b8 ≡ b7 ++ 32 ∷ [] → b9 ≡ b8 ++ 48 ∷ [] → b10 ≡ b9 ++ 32 ∷ [] → b11 ≡ b10 ++ 49 ∷ [] →
    b11 ≡ fen_text p
unfolding fen_text
fen_written p b1 b2 b3 b4 b5 b6 b7 b8 b9 b10 b11 e1 e2 e3 e4 e5 e6 e7 e8 e9 e10 e11 =
    rw (e11, e10, e9, e8, e7, e6, e5, e4, e3, e2, e1) (simp append_assoc)

pub ranks_text-step : (cells : List ℕ) (r : ℕ) → 0 < r →
    ranks_text cells r ≡ rank_text (row cells r) ++ 47 ∷ ranks_text cells (r - 1)
unfolding ranks_text
ranks_text-step cells zero l = absurd (omega arith)
ranks_text-step cells (suc r) l =
    let before : r ≡ suc r - 1 = omega arith in
    ap (λ n. rank_text (row cells (suc r)) ++ 47 ∷ ranks_text cells n) before

-- a rank more, and the last rank
pub placement_step : (all text cells part new : List ℕ) (r : ℕ) → 0 < r →
    text ++ ranks_text cells r ≡ all → part ≡ row cells r →
    new ≡ (text ++ rank_text part) ++ 47 ∷ [] → new ++ ranks_text cells (r - 1) ≡ all
placement_step all text cells part new r l e h k =
    ap (λ xs. xs ++ ranks_text cells (r - 1)) (k ∙ ap (λ xs. (text ++ rank_text xs) ++ 47 ∷ []) h)
    ∙ append_assoc (text ++ rank_text (row cells r)) (47 ∷ []) (ranks_text cells (r - 1))
    ∙ append_assoc text (rank_text (row cells r)) (47 ∷ ranks_text cells (r - 1))
    ∙ ap (λ xs. text ++ xs) (sym (ranks_text-step cells r l))
    ∙ e

pub placement_last : (all text cells new : List ℕ) → text ++ ranks_text cells 0 ≡ all →
    new ≡ text ++ rank_text (take 8 cells) → new ≡ all
unfolding ranks_text
placement_last all text cells new e h = h ∙ e

-- a text without the byte
abbrev pub lacks : ℕ → List ℕ → Bool
lacks c text = list_all (λ b. not (b == c)) text

split_at : (c : ℕ) (word rest : List ℕ) → lacks c word ≡ true →
    split (λ b. b == c) (word ++ c ∷ rest) ≡ word ∷ split (λ b. b == c) rest
split_at c [] rest h =
    ap (λ (x : Bool). cond x ([] ∷ split (λ b. b == c) rest)
    (with_first c (split (λ b. b == c) rest))) (eq-eqb c c refl)
split_at c (b ∷ bs) rest h =
    let parts = and_parts (not (b == c)) (lacks c bs) h in
    ap (λ (x : Bool). cond x ([] ∷ split (λ k. k == c) (bs ++ c ∷ rest))
    (with_first b (split (λ k. k == c) (bs ++ c ∷ rest)))) (not-true (b == c) parts.0)
    ∙ ap (with_first b) (split_at c bs rest parts.1)

split_end : (c : ℕ) (word : List ℕ) → lacks c word ≡ true → split (λ b. b == c) word ≡ word ∷ []
split_end c [] h = refl
split_end c (b ∷ bs) h =
    let parts = and_parts (not (b == c)) (lacks c bs) h in
    ap (λ (x : Bool). cond x ([] ∷ split (λ k. k == c) bs) (with_first b (split (λ k. k == c) bs)))
    (not-true (b == c) parts.0)
    ∙ ap (with_first b) (split_end c bs parts.1)

-- the text of a rank has none of the bytes that separate
byte_lacks : (c b : ℕ) → is_gap_or_man c ≡ false → is_gap_or_man b ≡ true → not (b == c) ≡ true
byte_lacks c b h e =
    elim (eqb_tells b c) [
      | inl w ↦ (let k : true ≡ false = sym e ∙ ap is_gap_or_man w.1 ∙ h in absurd cc)
      | inr w ↦ ap not w.0
    ]

right_lacks : (c : ℕ) (text : List ℕ) → is_gap_or_man c ≡ false →
    list_all is_gap_or_man text ≡ true → lacks c text ≡ true
right_lacks c [] h e = refl
right_lacks c (b ∷ bs) h e =
    let parts = and_parts (is_gap_or_man b) (list_all is_gap_or_man bs) e in
    and_from (not (b == c)) (lacks c bs) (byte_lacks c b h parts.0) (right_lacks c bs h parts.1)

-- what a rank of a board needs to be written
pub record AreRows (cells : List ℕ) : Type 0 where
  pub size : length cells ≡ 64
  pub fits : All (λ c. c < 13) cells

row-length : (cells : List ℕ) (r : ℕ) → length cells ≡ 64 → r < 8 → length (row cells r) ≡ 8
row-length cells r l m = grind (arith, length-take, length-drop)

row-cells : (cells : List ℕ) (r : ℕ) → AreRows cells → r < 8 → AreCells (row cells r)
row-cells cells r a m i k =
    All-get_or (λ c. c < 13) (row cells r) i 0 k
    (All-take (λ c. c < 13) 8 (drop (8 * r) cells) (All-drop (λ c. c < 13) (8 * r) cells a.fits))

rank_lacks : (c : ℕ) (cells : List ℕ) (r : ℕ) → is_gap_or_man c ≡ false → AreRows cells → r < 8 →
    lacks c (rank_text (row cells r)) ≡ true
rank_lacks c cells r h a m =
    right_lacks c (rank_text (row cells r)) h
    (rank_reads (row cells r) (let e = row-length cells r a.size m in omega arith)
    (row-cells cells r a m)).right

-- the texts of the ranks, from this one down
rows_down : List ℕ → ℕ → List (List ℕ)
rows_down cells zero = rank_text (row cells 0) ∷ []
rows_down cells (suc r) = rank_text (row cells (suc r)) ∷ rows_down cells r

ranks-down : (cells : List ℕ) (r : ℕ) → AreRows cells → r < 8 →
    ranks (ranks_text cells r) ≡ rows_down cells r
unfolding ranks_text rows_down
ranks-down cells zero a m = split_end 47 (rank_text (row cells 0)) (rank_lacks 47 cells 0 refl a m)
ranks-down cells (suc r) a m =
    split_at 47 (rank_text (row cells (suc r))) (ranks_text cells r)
    (rank_lacks 47 cells (suc r) refl a m)
    ∙ ap (λ xs. rank_text (row cells (suc r)) ∷ xs) (ranks-down cells r a (omega arith))

rows_right : (cells : List ℕ) (r : ℕ) → AreRows cells → r < 8 →
    wrong_rank (suc r) (rows_down cells r) ≡ None
unfolding rows_down wrong_rank
rows_right cells zero a m =
    rw (is_rank-text (row cells 0) (row-length cells 0 a.size m) (row-cells cells 0 a m)) refl
rows_right cells (suc r) a m =
    rw (is_rank-text (row cells (suc r)) (row-length cells (suc r) a.size m)
    (row-cells cells (suc r) a m)) (rows_right cells r a (omega arith))

row_read : (cells : List ℕ) (r : ℕ) → AreRows cells → r < 8 →
    rank_cells (rank_text (row cells r)) ≡ row cells r
row_read cells r a m =
    (rank_reads (row cells r) (let e = row-length cells r a.size m in omega arith)
    (row-cells cells r a m)).cells

cells_to_next_row : (r : ℕ) → 8 * r + 8 ≡ 8 * suc r
cells_to_next_row r = omega arith

rows_cells : (cells : List ℕ) (r : ℕ) → AreRows cells → r < 8 →
    board_cells (rows_down cells r) ≡ take (8 * r + 8) cells
unfolding rows_down
rows_cells cells zero a m = board_cells-cons (rank_text (row cells 0)) [] ∙ row_read cells 0 a m
rows_cells cells (suc r) a m =
    board_cells-cons (rank_text (row cells (suc r))) (rows_down cells r)
    ∙ ap (λ xs. xs ++ rank_cells (rank_text (row cells (suc r))))
    (rows_cells cells r a (omega arith))
    ∙ ap (λ xs. take (8 * r + 8) cells ++ xs) (row_read cells (suc r) a m)
    ∙ ap (λ n. take n cells ++ row cells (suc r)) (cells_to_next_row r)
    ∙ sym (take-add (8 * suc r) 8 cells)

-- the placement is read as the cells
pub placement_right : (cells : List ℕ) → AreRows cells →
    wrong_rank 8 (ranks (placement_text cells)) ≡ None
placement_right cells a =
    ap (wrong_rank 8) (ranks-down cells 7 a (lit< tt)) ∙ rows_right cells 7 a (lit< tt)

pub placement_cells : (cells : List ℕ) → AreRows cells →
    board_cells (ranks (placement_text cells)) ≡ cells
placement_cells cells a =
    ap board_cells (ranks-down cells 7 a (lit< tt)) ∙ rows_cells cells 7 a (lit< tt)
    ∙ take_all 64 cells (let e = a.size in omega arith)

ranks_lack : (c : ℕ) (cells : List ℕ) (r : ℕ) → is_gap_or_man c ≡ false → not (47 == c) ≡ true →
    AreRows cells → r < 8 → lacks c (ranks_text cells r) ≡ true
unfolding ranks_text
ranks_lack c cells zero h k a m = rank_lacks c cells 0 h a m
ranks_lack c cells (suc r) h k a m =
    list_all-append (λ b. not (b == c)) (rank_text (row cells (suc r))) (47 ∷ ranks_text cells r)
    ∙ and_from (lacks c (rank_text (row cells (suc r)))) (lacks c (47 ∷ ranks_text cells r))
    (rank_lacks c cells (suc r) h a m)
    (and_from (not (47 == c)) (lacks c (ranks_text cells r)) k
    (ranks_lack c cells r h k a (omega arith)))

some_bytes : (xs ys : List ℕ) (c : ℕ) → has_bytes (xs ++ c ∷ ys) ≡ true
some_bytes [] ys c = refl
some_bytes (x ∷ xs) ys c = refl

placement_bytes : (cells : List ℕ) → has_bytes (placement_text cells) ≡ true
unfolding ranks_text
placement_bytes cells = some_bytes (rank_text (row cells 7)) (ranks_text cells 6) 47

-- the six fields of a text
pub fen_fields : (p : Board) → AreRows p.cells → lacks 32 (turn_text p.turn) ≡ true →
    has_bytes (turn_text p.turn) ≡ true → lacks 32 (target_text p.ep) ≡ true →
    has_bytes (target_text p.ep) ≡ true →
    fields (fen_text p)
    ≡ placement_text p.cells ∷ turn_text p.turn ∷ (45 ∷ []) ∷ target_text p.ep ∷ (48 ∷ [])
    ∷ (49 ∷ []) ∷ []
unfolding fields fen_text
fen_fields p a t tb e eb =
    ap (filter has_bytes) cut
    ∙ rw (placement_bytes p.cells, tb, eb) refl
  where
    after_target : split (λ b. b == 32) (target_text p.ep ++ 32 ∷ 48 ∷ 32 ∷ 49 ∷ [])
        ≡ target_text p.ep ∷ (48 ∷ []) ∷ (49 ∷ []) ∷ []
    after_target = split_at 32 (target_text p.ep) (48 ∷ 32 ∷ 49 ∷ []) e

    after_turn : split (λ b. b == 32)
        (turn_text p.turn ++ 32 ∷ 45 ∷ 32 ∷ (target_text p.ep ++ 32 ∷ 48 ∷ 32 ∷ 49 ∷ []))
        ≡ turn_text p.turn ∷ (45 ∷ []) ∷ target_text p.ep ∷ (48 ∷ []) ∷ (49 ∷ []) ∷ []
    after_turn =
        split_at 32 (turn_text p.turn) (45 ∷ 32 ∷ (target_text p.ep ++ 32 ∷ 48 ∷ 32 ∷ 49 ∷ [])) t
        ∙ ap (λ xs. turn_text p.turn ∷ (45 ∷ []) ∷ xs) after_target

    cut : split (λ b. b == 32)
        (placement_text p.cells
        ++ 32 ∷ (turn_text p.turn ++ 32 ∷ 45 ∷ 32 ∷ (target_text p.ep ++ 32 ∷ 48 ∷ 32 ∷ 49 ∷ [])))
        ≡ placement_text p.cells ∷ turn_text p.turn ∷ (45 ∷ []) ∷ target_text p.ep ∷ (48 ∷ [])
        ∷ (49 ∷ []) ∷ []
    cut =
        split_at 32 (placement_text p.cells)
        (turn_text p.turn ++ 32 ∷ 45 ∷ 32 ∷ (target_text p.ep ++ 32 ∷ 48 ∷ 32 ∷ 49 ∷ []))
        (ranks_lack 32 p.cells 7 refl refl a (lit< tt))
        ∙ ap (λ xs. placement_text p.cells ∷ xs) after_turn
