-- How many plies the wins of a table over a back table take.
use Rattle.std.specs.Prelude.{◌≡◌, ◌≤◌, ◌+◌, ◌*◌, ℕ, true, List, slice_index}
use Rattle.frz_board.specs.declared.man.Colour.{Colour}
use Rattle.frz_board.specs.declared.man.Colour.TheVariants.{White, Black}
use Rattle.frz_board.specs.Boards.{Board}
use Rattle.frz_sets.specs.declared.exit.Value.{Value}
use Rattle.frz_sets.specs.Views.{RuleLines}
use Rattle.frz_arena.specs.declared.class.Class.TheVariants.{Good}
use Rattle.frz_arena.specs.declared.bound.Bound.TheVariants.{Wins}
use Rattle.frz_arena.specs.Chess.{ForcesMate}
use Rattle.frz_arena.specs.Codes.{is_win}
use Rattle.frz_arena.specs.Exits.{AllNumbered, IsExit}
use Rattle.frz_exits.specs.Books.{value_by}
use Rattle.frz_exits.specs.Values.{class_of, is_numbered}
use Rattle.frz_game.specs.Bounds.{IsBoundAt}
use Rattle.frz_game.specs.Games.{chess, game_of}
use Rattle.frz_game.specs.Values.{AreTrueExits}
use Rattle.frz_chain.specs.Books.{Back, chain_value}

-- the back table's codes of a side
abbrev pub back_codes : Back → Colour → List ℕ
back_codes back White = back.white
back_codes back Black = back.black

-- each win of the back table is within so many plies
abbrev pub WinsWithinPlies : Back → Colour → ℕ → Type 0
WinsWithinPlies back side most =
    (i : ℕ) → is_win (slice_index (back_codes back side) i) ≡ true
    → slice_index (back_codes back side) i ≤ 2 + 2 * most

-- each value just outside the set by which the side wins by the rules' own exit lines gives a
-- number of plies
abbrev pub OwnWinsNumbered : RuleLines → (Board → Value) → Colour → Type 0
OwnWinsNumbered rules value side =
    (q : Board) → IsExit (game_of rules value) q →
    class_of (value_by rules q) side ≡ Good → is_numbered (value_by rules q) ≡ true

-- a win within n over the back table forces mate within n plies and those of its longest win, where
-- the exits of both are true, and each exit line by which the side wins gives its plies
abbrev pub MatesOnBack : (rules backs : RuleLines) → (Board → Value) → Back → Colour → Type 0
MatesOnBack rules backs value back side =
    AreTrueExits rules (value_by rules) → AreTrueExits backs value →
    OwnWinsNumbered rules (chain_value rules back) side →
    AllNumbered (game_of backs value) side → (most : ℕ) → WinsWithinPlies back side most →
    (n : ℕ) (p : Board) → IsBoundAt rules (chain_value rules back) side p (Wins n) →
    ForcesMate chess side (n + most) p
