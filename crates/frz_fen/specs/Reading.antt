-- The position that a FEN text stands for, or the first fault of the text.
use Rattle.std.specs.Prelude.{ℕ, Bool, ◌&&◌, not, nat_le, List, length, Option, None, Some, Result, Ok, Err, true, codes, if◌then◌else◌}
use Rattle.std.specs.List.{list_all}
use Rattle.std.specs.Option.{option_map_or}
use Rattle.std.specs.Str.{bytes_eq}
use Rattle.frz_board.specs.declared.man.Colour.{Colour}
use Rattle.frz_board.specs.declared.man.Colour.TheVariants.{White, Black}
use Rattle.frz_board.specs.Men.{other_of}
use Rattle.frz_board.specs.Boards.{Board}
use Rattle.frz_board.specs.EnPassant.{is_passing_rank, has_passed, has_pawn_beside, ahead}
use Rattle.frz_fide.specs.declared.validity.Invalid.{Invalid as Cause}
use Rattle.frz_fide.specs.Valid.{validity_of}
use Rattle.frz_words.specs.Numbers.{is_digit}
use Rattle.frz_words.specs.Squares.{square_word}
use Rattle.frz_fen.specs.declared.fault.FenFault.{FenFault}
use Rattle.frz_fen.specs.declared.fault.FenFault.TheVariants.{Fields as WrongFields, Placement as WrongPlacement, Turn as WrongTurn, Castling as WrongCastling, EpSquare as WrongSquare, Clock as WrongClock, Invalid as NotValid}
use Rattle.frz_fen.specs.Fields.{FieldTexts, named_fields}
use Rattle.frz_fen.specs.Placement.{ranks, wrong_rank, board_cells}

-- the first fault, or what the value leads to
abbrev pub and_then : {A B : Type 0} →
    Result A FenFault → (A → Result B FenFault) → Result B FenFault
and_then (Err fault) next = Err fault
and_then (Ok value) next = next value

-- the field is a dash
abbrev pub is_dash : List ℕ → Bool
is_dash field = bytes_eq field (codes "-")

abbrev pub placed : List (List ℕ) → Option ℕ → Result (List ℕ) FenFault
placed parts None = Ok (board_cells parts)
placed parts (Some rank) = Err (WrongPlacement rank)

abbrev pub placement_of : List ℕ → Result (List ℕ) FenFault
placement_of field = placed (ranks field) (wrong_rank 8 (ranks field))

-- the side to move: w or b
abbrev pub turn_of : List ℕ → Result Colour FenFault
turn_of field =
    if bytes_eq field (codes "w") then Ok White else
    (if bytes_eq field (codes "b") then Ok Black else Err WrongTurn)

-- no castling right is accepted
abbrev pub castling_of : List ℕ → Result (Unit {0}) FenFault
castling_of field = if is_dash field then Ok tt else Err WrongCastling

-- a square over which the opponent's pawns pass when they advance two squares
abbrev pub target_on : Colour → Option ℕ → Result (Option ℕ) FenFault
target_on turn None = Err WrongSquare
target_on turn (Some s) = if is_passing_rank (other_of turn) s then Ok (Some s) else Err WrongSquare

abbrev pub target_of : Colour → List ℕ → Result (Option ℕ) FenFault
target_of turn field = if is_dash field then Ok None else target_on turn (square_word field)

-- one to four digits
abbrev pub is_clock : List ℕ → Bool
is_clock field = (nat_le 1 (length field) && nat_le (length field) 4) && list_all is_digit field

-- the text is a clock, or is left out
abbrev pub has_clock : Option (List ℕ) → Bool
has_clock field = option_map_or is_clock field true

abbrev pub clocks_of : Option (List ℕ) → Option (List ℕ) → Result (Unit {0}) FenFault
clocks_of halfmove fullmove =
    if has_clock halfmove && has_clock fullmove then Ok tt else Err WrongClock

-- a pawn has passed over the target, and no pawn of the side to move stands beside that pawn, so
-- none could capture it
abbrev pub is_idle : Board → ℕ → Bool
is_idle p t =
    has_passed p (other_of p.turn) t
    && not (has_pawn_beside p p.turn (ahead (other_of p.turn) t))

-- a target that no pawn could capture is dropped
abbrev pub kept : Board → Option ℕ → Option ℕ
kept p None = None
kept p (Some t) = if is_idle p t then None else Some t

abbrev pub with_kept : Board → Board
with_kept p = record p { ep = kept p p.ep }

abbrev pub accepted : Board → Result (Unit {0}) Cause → Result Board FenFault
accepted p (Ok _) = Ok p
accepted p (Err cause) = Err (NotValid cause)

-- the position, if it is valid
abbrev pub checked : Board → Result Board FenFault
checked p = accepted p (validity_of p)

-- the position that the fields stand for, or the fault of the first that is wrong
abbrev pub position_of : FieldTexts → Result Board FenFault
position_of f =
    and_then (placement_of f.placement) (λ cells.
    and_then (turn_of f.turn) (λ turn.
    and_then (castling_of f.castling) (λ _.
    and_then (target_of turn f.target) (λ target.
    and_then (clocks_of f.halfmove f.fullmove) (λ _.
    checked (with_kept (record { cells = cells; turn = turn; ep = target })))))))

abbrev pub from_fields : Option FieldTexts → Result Board FenFault
from_fields None = Err WrongFields
from_fields (Some f) = position_of f

unfoldable pub fen_of : List ℕ → Result Board FenFault
fen_of text = from_fields (named_fields text)
