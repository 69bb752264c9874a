-- The table in a file, and the table of rules.
use Rattle.std.specs.Prelude.{◌≡◌, ℕ, List}
use Rattle.frz_board.specs.Boards.{Board}
use Rattle.frz_board.specs.declared.man.Colour.TheVariants.{White, Black}
use Rattle.frz_sets.specs.declared.exit.Value.{Value}
use Rattle.frz_sets.specs.Views.{RuleLines}
use Rattle.frz_chain.specs.Bounds.{IsTableOf}
use Rattle.frz_chain.specs.Opening.{Contents}
use Rattle.frz_chain.specs.Kept.{kept_codes}
use Rattle.frz_chain.specs.declared.back.BackTable.{BackTable}
use Rattle.frz_backs.specs.Books.{Back, back_with}

-- the table in these bytes
abbrev pub back_of : Contents → List ℕ → Back
back_of contents bytes =
    back_with contents.rules (kept_codes contents bytes White) (kept_codes contents bytes Black)

-- the table that was loaded
abbrev pub loaded_back : BackTable → Back
loaded_back back = back_with back.table.rules back.white.items back.black.items

-- the table has the set and the exit lines of these rules, and its codes are the tables of both
-- sides by the values of a book
pub record IsExactBack (rules : RuleLines) (value : Board → Value) (back : Back) : Type 0 where
  pub set : back.groups ≡ rules.groups
  pub lines : back.exits ≡ rules.exits
  pub white : IsTableOf rules value White back.white
  pub black : IsTableOf rules value Black back.black
