-- The one file of a text over several tables.
use Rattle.std.specs.Prelude.{ℕ, List, [], ◌∷◌, Bool, true, false}
use Rattle.frz_sets.specs.Views.{RuleLines}
use Rattle.frz_table.specs.Layout.{kind_by, magic_of}
use Rattle.frz_atlas.specs.Behind.{kind_of, leans}
use Rattle.frz_check.specs.OneFile.{IsOneFile}
use Rattle.frz_backs.specs.Books.{Back}
use Rattle.frz_backs.specs.Links.{value_over}

-- a table leans on others where there are some
abbrev pub leans_on : List Back → Bool
leans_on [] = false
leans_on (back ∷ backs) = true

-- the bytes are the one file of the text over these tables, and the one plain file where there are
-- none
abbrev pub IsFileOver : List ℕ → RuleLines → List Back → List ℕ → Type 0
IsFileOver text rules backs bytes =
    IsOneFile (magic_of (kind_by (leans_on backs))) text rules (value_over (leans_on backs) rules backs)
    bytes

-- the bytes are the one file of the text of the kind as which they begin: over these tables where
-- they lean on others
abbrev pub IsOwnFile : List ℕ → RuleLines → List Back → List ℕ → Type 0
IsOwnFile text rules backs bytes =
    IsOneFile (magic_of (kind_of bytes)) text rules (value_over (leans bytes) rules backs) bytes
