-- Men that may expose their king by leaving their square.
use Rattle.std.specs.Prelude.{ℕ, Bool, true, false, ◌&&◌, ◌||◌, is_some, slice_set}
use Rattle.frz_board.specs.declared.man.Kind.{Kind}
use Rattle.frz_board.specs.declared.man.Kind.TheVariants.{King}
use Rattle.frz_board.specs.declared.man.Man.{Man}
use Rattle.frz_board.specs.Men.{is_pawn}
use Rattle.frz_board.specs.Boards.{Board}
use Rattle.frz_board.specs.Attacks.{is_in_check}

abbrev pub is_king : Kind → Bool
is_king King = true
is_king _ = false

-- a king goes to another square itself, and an en passant capture empties a third one
abbrev pub moves_apart : Board → Man → Bool
moves_apart p man = is_king man.kind || (is_pawn man.kind && is_some p.ep)

-- the board without the man on the square
abbrev pub without : Board → ℕ → Board
without p a = record p { cells = slice_set p.cells a 0 }

-- the king of the side to move is attacked once the man on the square has left the board
abbrev pub is_bared : Board → ℕ → Bool
is_bared p a = is_in_check (without p a) p.turn

abbrev pub may_expose : Board → Man → ℕ → Bool
may_expose p man a = moves_apart p man || is_bared p a
