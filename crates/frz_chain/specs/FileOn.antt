-- The one file of a text over a back table, and the back table of a file.
use Rattle.std.specs.Prelude.{◌≡◌, ℕ, List}
use Rattle.frz_board.specs.Boards.{Board}
use Rattle.frz_board.specs.declared.man.Colour.TheVariants.{White, Black}
use Rattle.frz_sets.specs.declared.exit.Value.{Value}
use Rattle.frz_sets.specs.Views.{RuleLines}
use Rattle.frz_game.specs.Bounds.{IsTableOf}
use Rattle.frz_table.specs.declared.kind.FileKind.TheVariants.{Chained}
use Rattle.frz_table.specs.Layout.{magic_of}
use Rattle.frz_table.specs.Opening.{Contents}
use Rattle.frz_build.specs.Kept.{kept_codes}
use Rattle.frz_build.specs.OneFile.{IsOneFile}
use Rattle.frz_chain.specs.Books.{Back, chain_value}
use Rattle.frz_chain.specs.declared.back.BackTable.{BackTable}

-- the back table in these bytes
abbrev pub back_of : Contents → List ℕ → Back
back_of contents bytes = record {
  groups = contents.rules.groups;
  white = kept_codes contents bytes White;
  black = kept_codes contents bytes Black;
}

-- the back table that was loaded
abbrev pub loaded_back : BackTable → Back
loaded_back back =
    record { groups = back.table.rules.groups; white = back.white.items; black = back.black.items }

-- the back table has the set of these rules, and its codes are
-- the tables of both sides by the values of a book
pub record IsExactBack (rules : RuleLines) (value : Board → Value) (back : Back) : Type 0 where
  pub set : back.groups ≡ rules.groups
  pub white : IsTableOf rules value White back.white
  pub black : IsTableOf rules value Black back.black

-- the bytes are the one file of the text over the back table
abbrev pub IsFileOn : List ℕ → RuleLines → Back → List ℕ → Type 0
IsFileOn text rules back bytes =
    IsOneFile (magic_of Chained) text rules (chain_value rules back) bytes
