-- Wins over several tables that tell their plies.
use Rattle.std.specs.Prelude.{not, max, ◌≡◌, ◌≤◌, ◌+◌, ◌++◌, ◌&&◌, ℕ, Bool, true, List, [], ◌∷◌, All, ⊤, if◌then◌else◌}
use Rattle.frz_board.specs.Boards.{Board}
use Rattle.frz_board.specs.declared.man.Colour.{Colour}
use Rattle.frz_sets.specs.Views.{RuleLines}
use Rattle.frz_arena.specs.declared.bound.Bound.TheVariants.{Wins}
use Rattle.frz_arena.specs.Chess.{ForcesMate}
use Rattle.frz_arena.specs.Codes.{is_win}
use Rattle.frz_arena.specs.Exits.{AllNumbered}
use Rattle.frz_chain.specs.Bounds.{IsBoundAt}
use Rattle.frz_chain.specs.Games.{chess, game_of}
use Rattle.frz_chain.specs.Values.{AreTrueExits}
use Rattle.frz_backs.specs.Books.{Back, back_codes}
use Rattle.frz_backs.specs.Counts.{count_for}
use Rattle.frz_backs.specs.Links.{AreTrueLines, Link, backs_of, own_over}
use Rattle.frz_backs.specs.Values.{atlas_value, own_value, plies_in}

-- each value by which the side wins just outside the set by the text's own lines says in how many
-- plies
abbrev pub OwnWinsNumbered : RuleLines → List Back → Colour → Type 0
OwnWinsNumbered rules backs side = AllNumbered (game_of rules (own_value rules backs)) side

-- a win within n over the tables forces mate within n plies, where the exit lines of all texts are
-- true, the side's wins count in all tables, and its own lines give their plies
abbrev pub MatesOver : RuleLines → List Link → Colour → Type 0
MatesOver rules links side =
    AreTrueLines links → AreTrueExits rules (own_value rules (backs_of links)) →
    count_for side (backs_of links) ≡ true → OwnWinsNumbered rules (backs_of links) side →
    (n : ℕ) (p : Board) → IsBoundAt rules (atlas_value rules (backs_of links)) side p (Wins n) →
    ForcesMate chess side n p

-- no win of the side in the table takes more than so many plies
abbrev pub WinsWithinPlies : Back → Colour → ℕ → Type 0
WinsWithinPlies back side most =
    All (λ code. is_win code ≡ true → plies_in code ≤ most) (back_codes back side)

-- no win of the side in a table takes more than its `most` plies, and the lines of each text by
-- which the side wins give theirs
unfoldable pub AreWithinPlies : List Back → List Link → Colour → (Link → ℕ) → Type 0
AreWithinPlies before [] side most = ⊤
AreWithinPlies before (link ∷ links) side most =
    WinsWithinPlies link.back side (most link)
    × AllNumbered (game_of link.rules (own_over link.leans link.rules before)) side
    × AreWithinPlies (before ++ (link.back ∷ [])) links side most

-- the plies behind a win in a set: where its text leans on the tables before it and the side's wins
-- do not count there, those of the longest way through these
abbrev pub plies_behind : Colour → (leans : Bool) → List Back → (longest : ℕ) → ℕ
plies_behind side leans before longest = if leans && not (count_for side before) then longest else 0

-- the most plies to mate over all tables
unfoldable pub longest_over : Colour → List Back → (longest : ℕ) → List Link → (Link → ℕ) → ℕ
longest_over side before longest [] most = longest
longest_over side before longest (link ∷ links) most =
    longest_over side (before ++ (link.back ∷ []))
    (max longest (most link + plies_behind side link.leans before longest)) links most

-- a win within n over the tables forces mate within n plies and, where the side's wins do not count
-- in all tables, those of the longest way through them; the exit lines of all texts are true, and
-- each by which the side wins gives its plies
abbrev pub MatesThrough : RuleLines → List Link → Colour → Type 0
MatesThrough rules links side =
    AreTrueLines links → AreTrueExits rules (own_value rules (backs_of links)) →
    OwnWinsNumbered rules (backs_of links) side →
    (most : Link → ℕ) → AreWithinPlies [] links side most →
    (n : ℕ) (p : Board) → IsBoundAt rules (atlas_value rules (backs_of links)) side p (Wins n) →
    ForcesMate chess side
    (n + plies_behind side true (backs_of links) (longest_over side [] 0 links most)) p
