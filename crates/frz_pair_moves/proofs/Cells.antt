-- Cells that are written in another order.
use Rattle.std.proofs.Common.{◌≡◌, ◌≢◌, ℕ, ◌<◌, Bool, true, false, cond, ◌&&◌, List, length, length-set, slice_index, slice_set, refl, ap, sym, ◌∙◌, arith}
use Rattle.std.specs.Prelude.{◌==◌}
use Rattle.std.proofs.lemmas.List.{set-set, set_comm, set-get_or}
use Rattle.frz_board.specs.declared.man.Man.{Man}
use Rattle.frz_board.specs.Boards.{Board}
use Rattle.frz_board.specs.Men.{cell_of_man, is_pawn}
use Rattle.frz_board.specs.Moving.{Step}
use Rattle.frz_board.proofs.Lemmas.{set_at}
use Rattle.frz_fide.specs.Legal.{arrives, beside_on_file, cells_after, takes_in_passing}
use Rattle.frz_fide.proofs.Lemmas.{cell_then}

-- a cell is written before or after two others
pub past : (xs : List ℕ) (a b k l s v : ℕ) → s ≢ a → s ≢ b →
    slice_set (slice_set (slice_set xs a k) b l) s v
    ≡ slice_set (slice_set (slice_set xs s v) a k) b l
past xs a b k l s v na nb =
    set_comm (slice_set xs a k) b s l v (λ e. nb (sym e))
    ∙ ap (λ ys. slice_set ys b l) (set_comm xs a s k v (λ e. na (sym e)))

moved_past : (xs : List ℕ) (a b k l s t v : ℕ) → s ≢ a → s ≢ b → t ≢ a → t ≢ b →
    slice_set (slice_set (slice_set (slice_set xs a k) b l) s 0) t v
    ≡ slice_set (slice_set (slice_set (slice_set xs s 0) t v) a k) b l
moved_past xs a b k l s t v sa sb ta tb =
    ap (λ ys. slice_set ys t v) (past xs a b k l s 0 sa sb)
    ∙ past (slice_set xs s 0) a b k l t v ta tb

-- a move is made before or after the kings are put on the board
pub written_past : (taken : Bool) (xs : List ℕ) (a b k l s t v e : ℕ) →
    s ≢ a → s ≢ b → t ≢ a → t ≢ b → (taken ≡ true → e ≢ a) → (taken ≡ true → e ≢ b) →
    cond taken
    (slice_set (slice_set (slice_set (slice_set (slice_set xs a k) b l) s 0) t v) e 0)
    (slice_set (slice_set (slice_set (slice_set xs a k) b l) s 0) t v)
    ≡ slice_set (slice_set
    (cond taken (slice_set (slice_set (slice_set xs s 0) t v) e 0)
    (slice_set (slice_set xs s 0) t v)) a k) b l
written_past false xs a b k l s t v e sa sb ta tb ea eb = moved_past xs a b k l s t v sa sb ta tb
written_past true xs a b k l s t v e sa sb ta tb ea eb =
    ap (λ ys. slice_set ys e 0) (moved_past xs a b k l s t v sa sb ta tb)
    ∙ past (slice_set (slice_set xs s 0) t v) a b k l e 0 (ea refl) (eb refl)

pub unwritten : (xs : List ℕ) (a : ℕ) → slice_index xs a ≡ 0 → slice_set xs a 0 ≡ xs
unwritten xs a none = ap (slice_set xs a) (sym none) ∙ set-get_or xs a 0

-- White's king leaves a for s
pub white_gone : (xs : List ℕ) (a b k l s : ℕ) → slice_index xs a ≡ 0 → a ≢ b → s ≢ b →
    slice_set (slice_set (slice_set (slice_set xs a k) b l) a 0) s k
    ≡ slice_set (slice_set (slice_set xs s 0) s k) b l
white_gone xs a b k l s none ab sb =
    ap (λ ys. slice_set ys s k)
    (set_comm (slice_set xs a k) b a l 0 (λ e. ab (sym e))
    ∙ ap (λ ys. slice_set ys b l) (set-set xs a k 0 ∙ unwritten xs a none))
    ∙ set_comm xs b s l k (λ e. sb (sym e))
    ∙ ap (λ ys. slice_set ys b l) (sym (set-set xs s 0 k))

-- Black's king leaves b for s
pub black_gone : (xs : List ℕ) (a b k l s : ℕ) → slice_index xs b ≡ 0 → a ≢ b → s ≢ a →
    slice_set (slice_set (slice_set (slice_set xs a k) b l) b 0) s l
    ≡ slice_set (slice_set (slice_set xs s 0) a k) s l
black_gone xs a b k l s none ab sa =
    ap (λ ys. slice_set ys s l)
    (set-set (slice_set xs a k) b l 0
    ∙ set_comm xs a b k 0 ab
    ∙ ap (λ ys. slice_set ys a k) (unwritten xs b none))
    ∙ sym (ap (λ ys. slice_set ys s l) (set_comm xs s a 0 k sa)
    ∙ set-set (slice_set xs a k) s 0 l)

written : (xs : List ℕ) (a b v e s : ℕ) (t : Bool) → a < length xs → b < length xs → e < length xs →
    slice_index (cond t (slice_set (slice_set (slice_set xs a 0) b v) e 0)
    (slice_set (slice_set xs a 0) b v)) s ≡ cond (t && (s == e)) 0
    (cond (s == b) v (cond (s == a) 0 (slice_index xs s)))
written xs a b v e s false la lb le =
    set_at (slice_set xs a 0) b v s (rw length-set lb) ∙ ap (cond (s == b) v) (set_at xs a 0 s la)
written xs a b v e s true la lb le =
    set_at (slice_set (slice_set xs a 0) b v) e 0 s (rw (length-set, length-set) le)
    ∙ ap (cond (s == e) 0)
    (set_at (slice_set xs a 0) b v s (rw length-set lb) ∙ ap (cond (s == b) v) (set_at xs a 0 s la))

-- what stands on a square after a man's step
pub after_at : (p : Board) (man : Man) (m : Step) (s : ℕ) → length p.cells ≡ 64 → m.from < 64 →
    m.to < 64 → slice_index (cells_after p man m) s ≡ cell_then p man m s
after_at p man m s size lf lt =
    written p.cells m.from m.to (cell_of_man (arrives man m.promo)) (beside_on_file m.from m.to) s
    (is_pawn man.kind && takes_in_passing p man.colour m.from m.to) (omega arith) (omega arith)
    (omega arith)

-- a step keeps the number of cells
pub length_after : (p : Board) (man : Man) (m : Step) → length (cells_after p man m) ≡ length p.cells
length_after p man m =
    kept (is_pawn man.kind && takes_in_passing p man.colour m.from m.to) p.cells m.from m.to
    (cell_of_man (arrives man m.promo)) (beside_on_file m.from m.to)
  where
    kept : (t : Bool) (xs : List ℕ) (a b v e : ℕ) →
        length (cond t (slice_set (slice_set (slice_set xs a 0) b v) e 0)
        (slice_set (slice_set xs a 0) b v)) ≡ length xs
    kept false xs a b v e = simp length-set
    kept true xs a b v e = simp length-set
