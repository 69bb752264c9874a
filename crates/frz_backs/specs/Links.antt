-- Tables each of which may lean on those before it.
use Rattle.std.specs.Prelude.{◌++◌, List, [], ◌∷◌, Bool, true, false, map, ⊤}
use Rattle.frz_board.specs.Boards.{Board}
use Rattle.frz_sets.specs.declared.exit.Value.{Value}
use Rattle.frz_sets.specs.Views.{RuleLines}
use Rattle.frz_exits.specs.Books.{value_by}
use Rattle.frz_chain.specs.Values.{AreTrueExits}
use Rattle.frz_backs.specs.Books.{Back}
use Rattle.frz_backs.specs.FileOn.{IsExactBack}
use Rattle.frz_backs.specs.Values.{atlas_value, own_value}

-- a table with the rules of its text, and whether it leans on the tables before it, which then tell
-- the values of exits of which its exit lines say nothing
pub record Link : Type 0 where
  pub rules : RuleLines
  pub leans : Bool
  pub back : Back

abbrev pub backs_of : List Link → List Back
backs_of links = map (λ link. link.back) links

-- the values of positions outside the set: by the exit lines alone, or with the tables behind them
abbrev pub value_over : Bool → RuleLines → List Back → Board → Value
value_over true rules before = atlas_value rules before
value_over false rules before = value_by rules

-- those by the text's own lines: all that are asked
abbrev pub own_over : Bool → RuleLines → List Back → Board → Value
own_over true rules before = own_value rules before
own_over false rules before = value_by rules

-- each table is exact; where it leans, the tables before it stand behind its exit lines
unfoldable pub AreExactOver : List Back → List Link → Type 0
AreExactOver before [] = ⊤
AreExactOver before (link ∷ links) =
    IsExactBack link.rules (value_over link.leans link.rules before) link.back
    × AreExactOver (before ++ (link.back ∷ [])) links

-- the tables are exact from the left; the first has none before it
abbrev pub AreExact : List Link → Type 0
AreExact links = AreExactOver [] links

-- the exit lines of each text are true at the exits where they are asked
unfoldable pub AreTrueLinesOver : List Back → List Link → Type 0
AreTrueLinesOver before [] = ⊤
AreTrueLinesOver before (link ∷ links) =
    AreTrueExits link.rules (own_over link.leans link.rules before)
    × AreTrueLinesOver (before ++ (link.back ∷ [])) links

abbrev pub AreTrueLines : List Link → Type 0
AreTrueLines links = AreTrueLinesOver [] links
