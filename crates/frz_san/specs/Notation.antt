-- Algebraic notation: the text of a legal move (FIDE appendix C, as PGN exports it).
use Rattle.std.specs.Prelude.{◌≡◌, ℕ, Bool, true, false, not, ◌==◌, ◌&&◌, ◌||◌, Option, None, Some, List, [], ◌∷◌, ◌++◌, slice_index, if◌then◌else◌, ◌⊎◌, codes}
use Rattle.std.specs.List.{list_any}
use Rattle.frz_board.specs.declared.man.Kind.{Kind}
use Rattle.frz_board.specs.declared.man.Man.{Man}
use Rattle.frz_board.specs.Squares.{file_of, rank_of}
use Rattle.frz_board.specs.Boards.{Board, man_on, is_empty}
use Rattle.frz_board.specs.Men.{is_pawn, letter_of_kind}
use Rattle.frz_board.specs.Moving.{Step}
use Rattle.frz_board.specs.Attacks.{is_in_check}
use Rattle.frz_board.specs.Texts.{file_letter, rank_digit}
use Rattle.frz_fide.specs.Legal.{after, takes_in_passing}
use Rattle.frz_fide.specs.Listing.{legal_moves_of}

-- the letter of the file and the digit of the rank (C.7)
abbrev pub square_text : ℕ → List ℕ
square_text s = file_letter s ∷ rank_digit s ∷ []

-- n brings a man of the same kind and colour as m does to the same square, from another one
abbrev pub is_rival : Board → Step → Step → Bool
is_rival p m n =
    (slice_index p.cells n.from == slice_index p.cells m.from && n.to == m.to)
    && not (n.from == m.from)

-- some legal move is a rival of m
unfoldable pub has_rival : Board → Step → Bool
has_rival p m = list_any (is_rival p m) (legal_moves_of p)

-- some rival of m starts on the same file
unfoldable pub has_rival_on_file : Board → Step → Bool
has_rival_on_file p m =
    list_any (λ n. is_rival p m n && file_of n.from == file_of m.from) (legal_moves_of p)

-- some rival of m starts on the same rank
unfoldable pub has_rival_on_rank : Board → Step → Bool
has_rival_on_rank p m =
    list_any (λ n. is_rival p m n && rank_of n.from == rank_of m.from) (legal_moves_of p)

-- the part of a piece's square of origin that tells its move from its rivals: nothing if that is
-- enough, else the file, else the rank, else both (C.10)
abbrev pub origin : Board → Step → List ℕ
origin p m =
    if not (has_rival p m) then [] else
    (if not (has_rival_on_file p m) then file_letter m.from ∷ [] else
    (if not (has_rival_on_rank p m) then rank_digit m.from ∷ [] else square_text m.from))

-- a man stands on the destination, or a pawn captures en passant
abbrev pub is_capture : Board → Man → Step → Bool
is_capture p man m =
    not (is_empty p m.to) || (is_pawn man.kind && takes_in_passing p man.colour m.from m.to)

-- x where the man captures (C.9)
abbrev pub cross : Board → Man → Step → List ℕ
cross p man m = if is_capture p man m then codes "x" else []

-- the file where a pawn starts, where it captures (C.9)
abbrev pub pawn_origin : Board → Man → Step → List ℕ
pawn_origin p man m = if is_capture p man m then file_letter m.from ∷ [] else []

-- = and the letter, where a pawn becomes another man (C.11; the = is of PGN)
abbrev pub promotion : Option Kind → List ℕ
promotion None = []
promotion (Some k) = codes "=" ++ letter_of_kind k ∷ []

-- a pawn's move: its file and x where it captures, the square of arrival, what it becomes (C.8)
abbrev pub pawn_text : Board → Man → Step → List ℕ
pawn_text p man m = pawn_origin p man m ++ cross p man m ++ square_text m.to ++ promotion m.promo

-- a piece's move: its letter (C.2), as much of its origin as is needed, x where it captures,
-- the square of arrival (C.8)
abbrev pub piece_text : Board → Man → Step → List ℕ
piece_text p man m =
    (letter_of_kind man.kind ∷ []) ++ origin p m ++ cross p man m ++ square_text m.to

abbrev pub text_by : Board → Option Man → Step → List ℕ
text_by p None m = []
text_by p (Some man) m = if is_pawn man.kind then pawn_text p man m else piece_text p man m

-- the text of a move without its sign
abbrev pub unsigned : Board → Step → List ℕ
unsigned p m = text_by p (man_on p m.from) m

abbrev pub sign_by : Bool → List Step → List ℕ
sign_by false moves = []
sign_by true [] = codes "#"
sign_by true (m ∷ ms) = codes "+"

-- the sign: # where the side to move is mated, else + where it is in check (C.13), else nothing
unfoldable pub sign : Board → List ℕ
sign q = sign_by (is_in_check q q.turn) (legal_moves_of q)

-- the opponent is in check after the move
abbrev pub gives_check : Board → Step → Bool
gives_check p m = let q = after p m in is_in_check q q.turn

-- the text of a move, San(p, m): its text without the sign, and the sign of the position afterwards
abbrev pub san_of : Board → Step → List ℕ
san_of p m = unsigned p m ++ sign (after p m)

-- the text is that of the move, with its sign or without
abbrev pub IsSan : Board → Step → List ℕ → Type 0
IsSan p m text = (text ≡ san_of p m) ⊎ (text ≡ unsigned p m)
