-- The lines that `premises` answers, by the text and the rules of RULES and by the tables behind.
use Rattle.std.specs.Prelude.{ℕ, Bool, false, List, [], ◌∷◌, ◌++◌, count_by, flat_map, length, map}
use Rattle.std.specs.List.{zip}
use Rattle.frz_board.specs.Boards.{Board}
use Rattle.frz_board.specs.declared.man.Colour.{Colour}
use Rattle.frz_board.specs.declared.man.Colour.TheVariants.{White, Black}
use Rattle.frz_sets.specs.declared.exit.Value.{Value}
use Rattle.frz_sets.specs.Views.{RuleLines}
use Rattle.frz_atlas.specs.BackTable.{BackTable}
use Rattle.frz_atlas.specs.Links.{Link, backs_of, value_over}
use Rattle.frz_atlas.specs.Loaded.{link_loaded}
use Rattle.frz_atlas.specs.Behind.{TableBytes, link_of}
use Rattle.frz_atlas.specs.FileOver.{leans_on}
use Rattle.frz_exit_lines.specs.Numbers.{exit_numbers_of}
use Rattle.frz_premises.specs.declared.basis.Basis.{Basis}
use Rattle.frz_premises.specs.declared.sides.Strength.{Strength}
use Rattle.frz_premises.specs.Bases.{bases_of, is_believed}
use Rattle.frz_premises.specs.Sides.{exits_tell, strength_of}
use Rattle.frz_commands_premises.specs.declared.line.Line.{Line}
use Rattle.frz_commands_premises.specs.declared.line.Line.TheVariants.{Back, Rules, Exit, Believed, Side}
use Rattle.frz_commands_premises.specs.LineTexts.{line_text}

-- the text of a table, and the table as one of several
pub record TextLink : Type 0 where
  pub text : List ℕ
  pub link : Link

-- of the table in these bytes, and of the table that was loaded
abbrev pub text_link_of : TableBytes → TextLink
text_link_of t = record { text = t.contents.text; link = link_of t }

abbrev pub text_link_loaded : BackTable → TextLink
text_link_loaded back = record { text = back.table.text; link = link_loaded back }

abbrev pub links_in : List TextLink → List Link
links_in tables = map (λ t. t.link) tables

-- a line for each of these exit lines, by their numbers and by what they rest on
abbrev pub lines_by : List ℕ → List Basis → List Line
lines_by numbers bases = map (λ e. Exit e.0 e.1) (zip numbers bases)

-- a line for each exit line of a text, with these tables, on which it leans or not
abbrev pub text_lines : (leans : Bool) → List ℕ → RuleLines → List Link → List Line
text_lines leans text rules links = lines_by (exit_numbers_of text) (bases_of leans rules links)

-- of each table a line that names it, and a line for each exit line of its text, with the tables
-- before it
unfoldable pub behind_lines : List Link → List TextLink → List Line
behind_lines before [] = []
behind_lines before (t ∷ more) =
    Back (length before) ∷ text_lines t.link.leans t.text t.link.rules before
    ++ behind_lines (before ++ t.link ∷ []) more

-- whether RULES lean on these tables: with none they stand alone
abbrev pub leans_over : List Link → Bool
leans_over links = leans_on (backs_of links)

-- the values of the exits in the table that is built of RULES over these tables
abbrev pub built_value : RuleLines → List Link → Board → Value
built_value rules links = value_over (leans_over links) rules (backs_of links)

-- the lines of all texts: of the tables from the left, and of RULES with all of them
abbrev pub basis_lines : List ℕ → RuleLines → List TextLink → List Line
basis_lines text rules tables =
    behind_lines [] tables
    ++ Rules ∷ text_lines (leans_over (links_in tables)) text rules (links_in tables)

-- how many of the lines tell of an exit line that is believed
abbrev pub tells_belief : Line → Bool
tells_belief (Exit number basis) = is_believed basis
tells_belief (Back place) = false
tells_belief Rules = false
tells_belief (Believed count) = false
tells_belief (Side side strength) = false

abbrev pub belief_among : List Line → ℕ
belief_among lines = count_by tells_belief lines

-- what the bounds of a side of RULES over these tables are, where so many lines are believed
abbrev pub strength_over : RuleLines → List Link → ℕ → Colour → Strength
strength_over rules links believed side =
    strength_of rules believed (exits_tell rules (built_value rules links)) side

-- the lines behind those of the texts: how many are believed, and what is said of each side
abbrev pub last_lines : RuleLines → List Link → ℕ → List Line
last_lines rules links believed =
    Believed believed ∷ Side White (strength_over rules links believed White)
    ∷ Side Black (strength_over rules links believed Black) ∷ []

abbrev pub premise_lines : List ℕ → RuleLines → List TextLink → List Line
premise_lines text rules tables =
    basis_lines text rules tables
    ++ last_lines rules (links_in tables) (belief_among (basis_lines text rules tables))

-- the text of the answer
abbrev pub premises_text : List ℕ → RuleLines → List TableBytes → List ℕ
premises_text text rules tables =
    flat_map line_text (premise_lines text rules (map text_link_of tables))
