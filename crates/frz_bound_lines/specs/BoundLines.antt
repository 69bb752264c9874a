-- The lines of a side's bound, and those of the code that a table keeps for the side.
use Rattle.std.specs.Prelude.{ℕ, ◌-◌, ◌/◌, ◌==◌, List, ◌++◌, if◌then◌else◌, codes, decimal}
use Rattle.frz_board.specs.declared.man.Colour.{Colour}
use Rattle.frz_board.specs.declared.man.Colour.TheVariants.{White, Black}
use Rattle.frz_arena.specs.declared.bound.Bound.{Bound}
use Rattle.frz_arena.specs.declared.bound.Bound.TheVariants.{Wins, Holds, Fails}
use Rattle.frz_arena.specs.Codes.{is_win}

abbrev pub side_name : Colour → List ℕ
side_name White = codes "white"
side_name Black = codes "black"

-- the words of a bound: a win with its plies, a hold, or neither
abbrev pub bound_text : Bound → List ℕ
bound_text (Wins n) = codes " wins within " ++ decimal n
bound_text Holds = codes " holds"
bound_text (Fails m) = codes " none"

abbrev pub bound_line : Colour → Bound → List ℕ
bound_line side bound = side_name side ++ bound_text bound ++ codes "\n"

-- the lines of two bounds, White's first
abbrev pub bounds_text : Bound → Bound → List ℕ
bounds_text white black = bound_line White white ++ bound_line Black black

-- the words of a code: 1 is a hold, an even code above 0 a win, and every other code neither
abbrev pub kept_words : ℕ → List ℕ
kept_words code =
    if code == 1 then codes " holds" else
    (if is_win code then codes " wins within " ++ decimal ((code - 2) / 2) else codes " none")

abbrev pub kept_line : Colour → ℕ → List ℕ
kept_line side code = side_name side ++ kept_words code ++ codes "\n"

-- the lines of two codes, White's first
abbrev pub kept_text : ℕ → ℕ → List ℕ
kept_text white black = kept_line White white ++ kept_line Black black
