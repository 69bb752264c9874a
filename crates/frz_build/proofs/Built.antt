-- The file of two tables is the one file of its text.
use Rattle.std.proofs.Common.{◌≡◌, refl, ap, ℕ, List, Result, Err}
use Rattle.frz_board.specs.declared.man.Colour.TheVariants.{White, Black}
use Rattle.frz_board.specs.Boards.{Board}
use Rattle.frz_sets.specs.declared.exit.Value.{Value}
use Rattle.frz_sets.specs.Views.{RuleLines}
use Rattle.frz_sets.specs.Sets.{size_of}
use Rattle.frz_check.specs.Bounds.{IsTableOf}
use Rattle.frz_check.specs.SmallLags.{HasSmallLags}
use Rattle.frz_check.proofs.Lemmas.{table_there}
use Rattle.frz_store.specs.Told.{StoreTold}
use Rattle.frz_store.specs.Writes.{Written}
use Rattle.frz_store.specs.declared.outside.StoreFault.{StoreFault}
use Rattle.frz_store.specs.declared.outside.StoreFault.TheVariants.{NoMemory}
use Rattle.frz_table.specs.Layout.{file_of}
use Rattle.frz_build.specs.Building.{Builds}
use Rattle.frz_build.proofs.AfterOpening.{quiet_same}

-- a table for each side
pub record Tables (rules : RuleLines) (value : Board → Value) : Type 0 where
  pub white : List ℕ
  pub black : List ℕ
  pub white_is : IsTableOf rules value White white
  pub black_is : IsTableOf rules value Black black

-- each side has one where no value gives more than 1,000 plies
pub some_tables : (rules : RuleLines) (value : Board → Value) → HasSmallLags value
    → Tables rules value
some_tables rules value small =
    let white = table_there rules value small White in
    let black = table_there rules value small Black in
    record { white = white.0; black = black.0; white_is = white.1; black_is = black.1 }

-- what was written of the file of two tables was written of the one file
pub builds : {T : Type 0} (magic text : List ℕ) (rules : RuleLines) (value : Board → Value)
    (name : List ℕ) (size : ℕ) (result : Result T StoreFault) (old new : StoreTold)
    → size ≡ size_of rules.groups → (t : Tables rules value)
    → Written name (file_of magic text size t.white t.black) result old new
    → Builds magic text rules value name result old new
builds magic text rules value name size result old new sized t written = record {
  bytes = file_of magic text size t.white t.black;
  one_file = record {
    white = t.white;
    black = t.black;
    white_table = t.white_is;
    black_table = t.black_is;
    whole = ap (λ (n : ℕ). file_of magic text n t.white t.black) sized;
  };
  written = written;
}

-- where memory ran out before the file was created, nothing of the one file was written
pub unbuilt : {T : Type 0} (magic text : List ℕ) (rules : RuleLines) (value : Board → Value)
    (name : List ℕ) (old : StoreTold) → HasSmallLags value
    → Builds {T = T} magic text rules value name (Err NoMemory) old old
unbuilt {T} magic text rules value name old small =
    builds {T = T} magic text rules value name (size_of rules.groups) (Err NoMemory) old old refl
    (some_tables rules value small) (quiet_same old)
