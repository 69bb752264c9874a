-- The men, and the numbers that stand for them in the cells of a board.
use Rattle.std.specs.Prelude.{ℕ, ◌+◌, ◌-◌, Bool, true, false, Option, None, Some, ◌==◌, nat_le, if◌then◌else◌}
use Rattle.frz_board.specs.declared.man.Colour.{Colour}
use Rattle.frz_board.specs.declared.man.Colour.TheVariants.{White, Black}
use Rattle.frz_board.specs.declared.man.Kind.{Kind}
use Rattle.frz_board.specs.declared.man.Kind.TheVariants.{King, Queen, Rook, Bishop, Knight, Pawn}
use Rattle.frz_board.specs.declared.man.Man.{Man}

-- the opponent
abbrev pub other_of : Colour → Colour
other_of White = Black
other_of Black = White

-- the numbers of the kinds in order, from 1
abbrev pub number_of_kind : Kind → ℕ
number_of_kind King = 1
number_of_kind Queen = 2
number_of_kind Rook = 3
number_of_kind Bishop = 4
number_of_kind Knight = 5
number_of_kind Pawn = 6

-- the number of a man in a cell: White's kinds are 1 to 6, and Black's 7 to 12
abbrev pub cell_of_man : Man → ℕ
cell_of_man m = elim m.colour [ White ↦ number_of_kind m.kind | Black ↦ number_of_kind m.kind + 6 ]

-- the kind of a number from 1 to 6
abbrev pub kind_of_number : ℕ → Kind
kind_of_number n =
    if n == 1 then King else (if n == 2 then Queen else (if n == 3 then Rook else
    (if n == 4 then Bishop else (if n == 5 then Knight else Pawn))))

-- the letters of the kinds in English, K Q R B N P (PGN 8.2.3.2, 16.1.3.1)
abbrev pub letter_of_kind : Kind → ℕ
letter_of_kind King = 75
letter_of_kind Queen = 81
letter_of_kind Rook = 82
letter_of_kind Bishop = 66
letter_of_kind Knight = 78
letter_of_kind Pawn = 80

-- the kind of one of these letters, and none of any other byte
abbrev pub kind_of_letter : ℕ → Option Kind
kind_of_letter b =
    if b == 75 then Some King else (if b == 81 then Some Queen else
    (if b == 82 then Some Rook else (if b == 66 then Some Bishop else
    (if b == 78 then Some Knight else (if b == 80 then Some Pawn else None)))))

-- a man's letter: a capital for White, a small one for Black (PGN 16.1.3.1)
abbrev pub letter_of_man : Man → ℕ
letter_of_man m =
    elim m.colour [ White ↦ letter_of_kind m.kind | Black ↦ letter_of_kind m.kind + 32 ]

abbrev pub man_of_kinds : Option Kind → Option Kind → Option Man
man_of_kinds (Some k) small = Some (record { colour = White; kind = k })
man_of_kinds None (Some k) = Some (record { colour = Black; kind = k })
man_of_kinds None None = None

-- the man of a letter, and none of a byte that is no man's letter
abbrev pub man_of_letter : ℕ → Option Man
man_of_letter b = man_of_kinds (kind_of_letter b) (kind_of_letter (b - 32))

-- the man of a cell: none at 0 and above 12
abbrev pub man_of_cell : ℕ → Option Man
man_of_cell c =
    if c == 0 then None else
    (if nat_le c 6 then Some (record { colour = White; kind = kind_of_number c }) else
    (if nat_le c 12 then Some (record { colour = Black; kind = kind_of_number (c - 6) }) else None))

abbrev pub same_colour : Colour → Colour → Bool
same_colour White White = true
same_colour Black Black = true
same_colour _ _ = false

-- there is a man, and it is of this side
abbrev pub is_man_of : Colour → Option Man → Bool
is_man_of c None = false
is_man_of c (Some m) = same_colour m.colour c

abbrev pub is_pawn : Kind → Bool
is_pawn Pawn = true
is_pawn _ = false
