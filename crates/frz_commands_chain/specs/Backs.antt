-- The back table that a name holds.
use Rattle.std.specs.Prelude.{◌≡◌, List, ℕ, Option, Some}
use Rattle.frz_table.specs.Opening.{Contents}
use Rattle.frz_check.specs.declared.verdict.Verdict.TheVariants.{Exact}
use Rattle.frz_chain.specs.Backs.{IsBackJudged}
use Rattle.frz_chain.specs.Books.{Back}
use Rattle.frz_chain.specs.FileOn.{back_of}

-- what is held is a plain table that is exact, and this is the back table in it
pub record IsBackIn (held : Option (List ℕ)) (back : Back) : Type 0 where
  pub bytes : List ℕ
  pub there : held ≡ Some bytes
  pub contents : Contents
  pub judged : IsBackJudged bytes contents Exact
  pub keeps : back ≡ back_of contents bytes
