-- What stands on a square after a move.
use Rattle.std.proofs.Common.{◌≡◌, ℕ, ◌<◌, List, length, ap, ◌∙◌, Bool, true, false, cond, ◌&&◌, arith, slice_index, slice_set, length-set}
use Rattle.std.specs.Prelude.{◌==◌}
use Rattle.frz_board.specs.Boards.{Board}
use Rattle.frz_board.specs.Men.{cell_of_man, is_pawn}
use Rattle.frz_board.specs.Moving.{Step}
use Rattle.frz_fide.specs.Legal.{cells_after, takes_in_passing, arrives, beside_on_file}
use Rattle.frz_board.specs.declared.man.Man.{Man}
use Rattle.frz_board.proofs.Lemmas.{set_at}

-- the cell of a square after a move
abbrev pub cell_then : Board → Man → Step → ℕ → ℕ
cell_then p man m s =
    cond ((is_pawn man.kind && takes_in_passing p man.colour m.from m.to)
    && (s == beside_on_file m.from m.to)) 0
    (cond (s == m.to) (cell_of_man (arrives man m.promo))
    (cond (s == m.from) 0 (slice_index p.cells s)))

written : (xs : List ℕ) (a b v e s : ℕ) (t : Bool) → a < length xs → b < length xs → e < length xs →
    slice_index (cond t (slice_set (slice_set (slice_set xs a 0) b v) e 0)
    (slice_set (slice_set xs a 0) b v)) s ≡ cond (t && (s == e)) 0
    (cond (s == b) v (cond (s == a) 0 (slice_index xs s)))
written xs a b v e s false la lb le =
    set_at (slice_set xs a 0) b v s (rw length-set lb) ∙ ap (cond (s == b) v) (set_at xs a 0 s la)
written xs a b v e s true la lb le =
    set_at (slice_set (slice_set xs a 0) b v) e 0 s (rw (length-set, length-set) le)
    ∙ ap (cond (s == e) 0)
    (set_at (slice_set xs a 0) b v s (rw length-set lb) ∙ ap (cond (s == b) v) (set_at xs a 0 s la))

pub cell_at : (p : Board) (man : Man) (m : Step) (s : ℕ) → length p.cells ≡ 64 → m.from < 64 →
    m.to < 64 → slice_index (cells_after p man m) s ≡ cell_then p man m s
cell_at p man m s size lf lt =
    written p.cells m.from m.to (cell_of_man (arrives man m.promo)) (beside_on_file m.from m.to) s
    (is_pawn man.kind && takes_in_passing p man.colour m.from m.to) (omega arith) (omega arith)
    (omega arith)
