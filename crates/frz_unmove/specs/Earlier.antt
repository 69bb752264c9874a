-- A move taken back: what names it among all that lead to one position, and the position before it.
use Rattle.std.specs.Prelude.{ℕ, ◌&&◌, Bool, ◌==◌, List, Option, is_some, slice_index, slice_set, if◌then◌else◌}
use Rattle.frz_board.specs.Boards.{Board}
use Rattle.frz_board.specs.Men.{other_of}
use Rattle.frz_board.specs.Moving.{Step}
use Rattle.frz_board.specs.Attacks.{pawn_reaches}
use Rattle.frz_sets.specs.Sets.{pawn}
use Rattle.frz_fide.specs.Legal.{beside_on_file, is_target}

-- the name of a move taken back: the move; the cell of what it captured on its last square, 0 for
-- none; and the en passant target that stood before it, or none
pub record Name : Type 0 where
  pub mv : Step
  pub captured : ℕ
  pub target : Option ℕ

abbrev pub name : Step → ℕ → Option ℕ → Name
name m captured target = record { mv = m; captured = captured; target = target }

-- the cell of the man that moved: a pawn if it promoted, and else the man on the move's end
abbrev pub mover_cell : Board → Step → ℕ
mover_cell q m = if is_some m.promo then pawn (other_of q.turn) else slice_index q.cells m.to

-- a pawn went diagonally to the earlier target: it captured en passant
abbrev pub was_en_passant : Board → Step → Option ℕ → Bool
was_en_passant q m target =
    mover_cell q m == pawn (other_of q.turn)
    && (pawn_reaches (other_of q.turn) m.from m.to && is_target target m.to)

-- the man goes back to its origin; what it captured stands on the move's end again, or, captured en
-- passant, beside its origin
abbrev pub cells_before : Board → Name → List ℕ
cells_before q n =
    let back = slice_set (slice_set q.cells n.mv.to n.captured) n.mv.from (mover_cell q n.mv) in
    if was_en_passant q n.mv n.target
    then slice_set back (beside_on_file n.mv.from n.mv.to) (pawn q.turn)
    else back

-- the earlier position of a name: the only one from which the move of this name can have led here
abbrev pub before : Board → Name → Board
before q n = record { cells = cells_before q n; turn = other_of q.turn; ep = n.target }
