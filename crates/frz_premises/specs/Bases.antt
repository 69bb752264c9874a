-- What an exit line rests on, at the exits that it decides.
use Rattle.std.specs.Prelude.{not, ℕ, Bool, true, false, List, [], ◌∷◌, map, filter, find, count_by, Option, Some, None, if◌then◌else◌}
use Rattle.std.specs.List.{enumerate_from, position_from}
use Rattle.frz_board.specs.Boards.{Board}
use Rattle.frz_sets.specs.declared.exit.Value.{Value}
use Rattle.frz_sets.specs.Views.{ExitLine, RuleLines}
use Rattle.frz_exits.specs.Values.{is_unknown}
use Rattle.frz_backs.specs.Links.{Link}
use Rattle.frz_premises.specs.declared.basis.Basis.{Basis}
use Rattle.frz_premises.specs.declared.basis.Basis.TheVariants.{AsksNothing, ByMen, ByTable, ByTables, Believed}
use Rattle.frz_premises.specs.Deciding.{decided_by}
use Rattle.frz_premises.specs.Men.{men_show}
use Rattle.frz_premises.specs.Saying.{none_says, says_at_each}
use Rattle.frz_premises.specs.WaysOut.{outside_of}

-- of these exits, those at which the men alone do not show the value
abbrev pub asked_of : Value → List Board → List Board
asked_of v qs = filter (λ q. not (men_show v q)) qs

-- it is believed where some exit is told as much by no table; else the first table that says as
-- much at each exit proves it, and where there is none, several tables together do
abbrev pub by_need : Option Board → Option ℕ → Basis
by_need (Some q) place = Believed q
by_need None (Some k) = ByTable k
by_need None None = ByTables

-- what tables show of a value at the exits that get it
abbrev pub by_tables : List Link → Value → List Board → Basis
by_tables links value qs =
    by_need (find (none_says links value) qs) (position_from (says_at_each value qs) 0 links)

-- what shows a value, where these are the exits at which the men do not: the men alone, or tables
abbrev pub by_asked : List Link → Value → (asked : List Board) → Basis
by_asked links v [] = ByMen
by_asked links v (q ∷ asked) = by_tables links v (q ∷ asked)

-- what a line with this value rests on, by the exits that it decides: nothing is asked where there
-- is none, or where the value is unknown
abbrev pub basis_at : List Link → Value → List Board → Basis
basis_at links v [] = AsksNothing
basis_at links v (q ∷ qs) =
    if is_unknown v then AsksNothing else by_asked links v (asked_of v (q ∷ qs))

-- what the line at this place of rules rests on, with these tables, on which its text leans or not
abbrev pub basis_of : Bool → RuleLines → List Link → ℕ → ExitLine → Basis
basis_of leans rules links i line =
    basis_at links line.value (decided_by leans rules links i (outside_of rules.groups))

-- what each exit line of the rules rests on, in the order of the text
unfoldable pub bases_of : Bool → RuleLines → List Link → List Basis
bases_of leans rules links =
    map (λ e. basis_of leans rules links e.0 e.1) (enumerate_from 0 rules.exits)

abbrev pub is_believed : Basis → Bool
is_believed AsksNothing = false
is_believed ByMen = false
is_believed (ByTable k) = false
is_believed ByTables = false
is_believed (Believed q) = true

-- how many exit lines are believed
abbrev pub believed_of : Bool → RuleLines → List Link → ℕ
believed_of leans rules links = count_by is_believed (bases_of leans rules links)
