-- The premise that what is believed is true, and how many exit lines of several texts are believed.
use Rattle.std.specs.Prelude.{◌≡◌, ◌+◌, ◌++◌, ℕ, Bool, true, List, [], ◌∷◌, Some, slice_get, ⊤}
use Rattle.frz_board.specs.Boards.{Board}
use Rattle.frz_sets.specs.Views.{ExitLine, RuleLines}
use Rattle.frz_arena.specs.Exits.{IsExit}
use Rattle.frz_exits.specs.Books.{value_by}
use Rattle.frz_game.specs.Games.{game_of}
use Rattle.frz_game.specs.Values.{IsTrueValue}
use Rattle.frz_backs.specs.Links.{Link}
use Rattle.frz_premises.specs.Bases.{basis_of, believed_of, is_believed}
use Rattle.frz_premises.specs.Deciding.{decides}

-- each exit line that is believed, with these tables, is true at each exit that it decides
abbrev pub BeliefHolds : Bool → RuleLines → List Link → Type 0
BeliefHolds leans rules links =
    (i : ℕ) (line : ExitLine) (q : Board) → slice_get rules.exits i ≡ Some line →
    is_believed (basis_of leans rules links i line) ≡ true →
    IsExit (game_of rules (value_by rules)) q → decides leans rules links i q ≡ true →
    IsTrueValue line.value q

-- so it is for the text of each table, with the tables before it
unfoldable pub BeliefsHoldOver : List Link → List Link → Type 0
BeliefsHoldOver before [] = ⊤
BeliefsHoldOver before (link ∷ links) =
    BeliefHolds link.leans link.rules before × BeliefsHoldOver (before ++ link ∷ []) links

-- the tables from the left; the first has none before it
abbrev pub BeliefsHold : List Link → Type 0
BeliefsHold links = BeliefsHoldOver [] links

-- how many exit lines of these tables are believed, each text with the tables before it
unfoldable pub believed_over : List Link → List Link → ℕ
believed_over before [] = 0
believed_over before (link ∷ links) =
    believed_of link.leans link.rules before + believed_over (before ++ link ∷ []) links

-- from the left; the first table has none before it
abbrev pub believed_in : List Link → ℕ
believed_in links = believed_over [] links
