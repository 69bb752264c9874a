-- What a man may do in one move, and the position after it.
use Rattle.std.specs.Prelude.{ℕ, ◌+◌, ◌*◌, ◌/◌, Bool, false, not, ◌==◌, ◌&&◌, ◌||◌, Option, None, Some, slice_set, List, if◌then◌else◌, is_none, is_some}
use Rattle.frz_board.specs.declared.man.Colour.{Colour}
use Rattle.frz_board.specs.declared.man.Kind.{Kind}
use Rattle.frz_board.specs.declared.man.Kind.TheVariants.{Pawn}
use Rattle.frz_board.specs.declared.man.Man.{Man}
use Rattle.frz_board.specs.Squares.{rank_of, file_of, files_apart, is_forward}
use Rattle.frz_board.specs.Men.{cell_of_man, other_of, is_pawn}
use Rattle.frz_board.specs.Boards.{Board, man_on, is_empty, holds}
use Rattle.frz_board.specs.Moving.{Step, is_promotion}
use Rattle.frz_board.specs.Attacks.{reaches, pawn_reaches, is_in_check}
use Rattle.frz_board.specs.EnPassant.{has_pawn_beside}
pub use Rattle.frz_board.specs.Ranks.{is_home, is_last}
pub use Rattle.frz_board.specs.EnPassant.{is_target}

-- the square midway, which a pawn passes over when it advances two squares
abbrev pub passed_over : ℕ → ℕ → ℕ
passed_over a b = (a + b) / 2

-- the square beside a, on the file of b: where a pawn stands that is captured en passant
abbrev pub beside_on_file : ℕ → ℕ → ℕ
beside_on_file a b = 8 * rank_of a + file_of b

-- a pawn captures a man of the opponent, diagonally forward (FIDE 3.7.3)
abbrev pub captures : Board → Colour → ℕ → ℕ → Bool
captures p c a b = pawn_reaches c a b && holds p (other_of c) b

-- a pawn captures en passant: it goes to the square that a pawn has just passed over (FIDE 3.7.3.1)
abbrev pub takes_in_passing : Board → Colour → ℕ → ℕ → Bool
takes_in_passing p c a b = pawn_reaches c a b && is_target p.ep b

-- a pawn moves one square forward, to an empty square (FIDE 3.7.1)
abbrev pub steps : Board → Colour → ℕ → ℕ → Bool
steps p c a b = (files_apart a b == 0 && is_forward c 1 a b) && is_empty p b

-- a pawn advances two squares from where it began, both empty (FIDE 3.7.2)
abbrev pub advances : Board → Colour → ℕ → ℕ → Bool
advances p c a b =
    (is_home c a && (files_apart a b == 0 && is_forward c 2 a b))
    && (is_empty p b && is_empty p (passed_over a b))

-- a man of this colour and kind may go from a to b: a pawn in one of four ways, any other man to
-- what it attacks (FIDE 3.2 to 3.8)
abbrev pub goes : Board → Colour → Kind → ℕ → ℕ → Bool
goes p c Pawn a b =
    (captures p c a b || steps p c a b) || (advances p c a b || takes_in_passing p c a b)
goes p c k a b = reaches p c k a b

-- a pawn becomes another man exactly on its last rank, and no other man does (FIDE 3.7.3.3)
abbrev pub promotes : Colour → Kind → ℕ → Option Kind → Bool
promotes c Pawn b promo =
    is_promotion promo && (if is_last c b then is_some promo else is_none promo)
promotes c k b promo = is_none promo

abbrev pub man_goes : Board → Option Man → Step → Bool
man_goes p None m = false
man_goes p (Some man) m =
    goes p man.colour man.kind m.from m.to && promotes man.colour man.kind m.to m.promo

-- a man of the mover may go to a square that holds none of the mover's men, whatever becomes of the
-- king (FIDE 3.1)
abbrev pub can_go : Board → Step → Bool
can_go p m = (holds p p.turn m.from && not (holds p p.turn m.to)) && man_goes p (man_on p m.from) m

-- the man that arrives: the one that it promotes to, or itself
abbrev pub arrives : Man → Option Kind → Man
arrives man None = man
arrives man (Some k) = record { colour = man.colour; kind = k }

-- the man leaves its square and arrives on another, where a man is captured (FIDE 3.1.1); a pawn
-- captured en passant leaves the board
abbrev pub cells_after : Board → Man → Step → List ℕ
cells_after p man m =
    let moved = slice_set (slice_set p.cells m.from 0) m.to (cell_of_man (arrives man m.promo)) in
    if is_pawn man.kind && takes_in_passing p man.colour m.from m.to
    then slice_set moved (beside_on_file m.from m.to) 0
    else moved

-- a pawn that advanced two squares leaves a target exactly where an enemy pawn stands beside it
abbrev pub target_after : Board → Man → Step → Option ℕ
target_after p man m =
    if (is_pawn man.kind && advances p man.colour m.from m.to)
    && has_pawn_beside p (other_of man.colour) m.to
    then Some (passed_over m.from m.to)
    else None

abbrev pub after_man : Board → Option Man → Step → Board
after_man p None m = p
after_man p (Some man) m =
    record { cells = cells_after p man m; turn = other_of p.turn; ep = target_after p man m }

-- the position after a move: the other side is to move
abbrev pub after : Board → Step → Board
after p m = after_man p (man_on p m.from) m

-- a move is legal where it can go and the mover's king is not attacked afterwards (FIDE 3.9.2)
unfoldable pub is_legal : Board → Step → Bool
is_legal p m = can_go p m && not (is_in_check (after p m) p.turn)

-- the position after a legal move
abbrev pub played : Board → Step → Option Board
played p m = if is_legal p m then Some (after p m) else None
