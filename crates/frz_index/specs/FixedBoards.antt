-- The boards with the fixed men alone.
use Rattle.std.specs.Prelude.{ℕ, ◌≡◌, true, false, List, Option, None, MatchOption}
use Rattle.frz_board.specs.declared.man.Colour.{Colour}
use Rattle.frz_board.specs.declared.man.Colour.TheVariants.{White, Black}
use Rattle.frz_board.specs.Boards.{Board}
use Rattle.frz_sets.specs.Views.{GroupLine}
use Rattle.frz_index.specs.Candidates.{no_men}
use Rattle.frz_index.specs.FixedMen.{are_fixed_free, put_fixed}
use Rattle.frz_index.specs.declared.fixed.FixedBoards.{FixedBoards}

-- the board with the fixed men alone
abbrev pub board_of_fixed : List GroupLine → Colour → Option ℕ → Board
board_of_fixed gs turn ep = record { cells = put_fixed gs no_men; turn = turn; ep = ep }

-- the board with the fixed men alone, and None where two of them would stand on one square
abbrev pub IsFixedBoard : List GroupLine → Colour → Option ℕ → Option Board → Type 0
IsFixedBoard gs turn ep board =
    MatchOption board (are_fixed_free gs no_men ≡ false)
    (λ p. (are_fixed_free gs no_men ≡ true) × (p ≡ board_of_fixed gs turn ep))

-- both such boards without a target
abbrev pub AreFixedBoards : List GroupLine → Option FixedBoards → Type 0
AreFixedBoards gs boards =
    MatchOption boards (are_fixed_free gs no_men ≡ false)
    (λ b. (are_fixed_free gs no_men ≡ true) × (b.white ≡ board_of_fixed gs White None)
    × (b.black ≡ board_of_fixed gs Black None))
