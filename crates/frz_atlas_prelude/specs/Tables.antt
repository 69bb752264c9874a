-- The tables that the names behind another hold, each exact over those before it.
use Rattle.std.specs.Prelude.{◌≡◌, ◌++◌, List, [], ◌∷◌, ℕ, Option, ⊤}
use Rattle.frz_atlas.specs.Verdict.TheVariants.{Exact}
use Rattle.frz_atlas.specs.Books.{Back}
use Rattle.frz_atlas.specs.FileOn.{back_of}
use Rattle.frz_atlas.specs.Behind.{IsJudgedOver, TableBytes}
use Rattle.frz_atlas.specs.Held.{all_held}

-- each table is exact over those before it; that its file holds only bytes (numbers below 256) is
-- not asked here
unfoldable pub AreExactOver : List Back → List TableBytes → Type 0
AreExactOver before [] = ⊤
AreExactOver before (table ∷ more) =
    IsJudgedOver before table Exact
    × AreExactOver (before ++ (back_of table.contents table.bytes ∷ [])) more

-- these tables are what is held, each exact over those before it; the first has none before it
pub record AreTablesIn (helds : List (Option (List ℕ))) (tables : List TableBytes) : Type 0 where
  pub there : helds ≡ all_held tables
  pub exact : AreExactOver [] tables
