-- A move taken back that took nothing and is no pawn's.
use Rattle.std.specs.Prelude.{ℕ, ◌≡◌, ◌<◌, ◌==◌, ◌&&◌, ◌||◌, Bool, true, false, not, Option, None, Some, slice_set}
use Rattle.frz_board.specs.declared.man.Kind.TheVariants.{King}
use Rattle.frz_board.specs.Attacks.{is_in_check, reaches}
use Rattle.frz_unmove.specs.declared.quiet.Ready.{Ready}
use Rattle.frz_board.specs.declared.man.Man.{Man}
use Rattle.frz_board.specs.Boards.{Board, has, holds, is_empty, man_on}
use Rattle.frz_board.specs.EnPassant.{ahead, is_passed}
use Rattle.frz_board.specs.Men.{is_pawn, other_of}
use Rattle.frz_board.specs.Moving.{Step}

-- this man has moved, no pawn; it took nothing, and there is no target now
pub record IsQuietBack (q : Board) (m : Step) (taken : ℕ) (man : Man) : Type 0 where
  pub none_taken : taken ≡ 0
  pub no_later : q.ep ≡ None
  pub promo : m.promo ≡ None
  pub free : is_empty q m.from ≡ true
  pub own : holds q (other_of q.turn) m.to ≡ true
  pub man_is : man_on q m.to ≡ Some man
  pub piece : is_pawn man.kind ≡ false

-- this man has moved to the square, no pawn, and there is no target now
pub record IsPieceAt (q : Board) (to : ℕ) (man : Man) : Type 0 where
  pub no_later : q.ep ≡ None
  pub own : holds q (other_of q.turn) to ≡ true
  pub man_is : man_on q to ≡ Some man
  pub piece : is_pawn man.kind ≡ false

-- the man that has moved to the square, the board without him, where the king of the side to move
-- is not attacked, and that king's square
pub record IsReady (q : Board) (to : ℕ) (ready : Ready) : Type 0 where
  pub there : IsPieceAt q to ready.man
  pub bare_is : ready.bare.now ≡ record q { cells = slice_set q.cells to 0 }
  pub safe : is_in_check ready.bare.now q.turn ≡ false
  pub on_board : ready.king < 64
  pub king_is : has q q.turn King ready.king ≡ true

-- the target was in place while the man stood on this square: a pawn of the side to move had passed
-- over it on the board without him, and he stood on neither of the squares that it passed
abbrev pub keeps_target : Board → Option ℕ → ℕ → Bool
keeps_target bare None a = true
keeps_target bare (Some t) a =
    is_passed bare bare.turn t && not (a == t || a == ahead (other_of bare.turn) t)

-- from this square, where he stood while this was the target, the man has an open way to the other,
-- and none to the king
abbrev pub is_quiet_origin : Ready → Option ℕ → ℕ → ℕ → Bool
is_quiet_origin ready target to a =
    (reaches ready.bare.now ready.man.colour ready.man.kind a to
    && not (reaches ready.bare.now ready.man.colour ready.man.kind a ready.king))
    && keeps_target ready.bare.now target a
