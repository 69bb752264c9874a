-- What a command answers where TABLE or one of the BACKs is refused.
use Rattle.std.specs.Prelude.{◌≡◌, ℕ, List, [], map, Err}
use Rattle.frz_store.specs.Files.{Files}
use Rattle.frz_table.specs.declared.fault.TableFault.{TableFault}
use Rattle.frz_table.specs.Opening.{opened, own_format}
use Rattle.frz_atlas.specs.Behind.{IsRefusedAt}
use Rattle.frz_atlas.specs.Checking.{OpensOwn}
use Rattle.frz_atlas.specs.Loading.{opened_all}
use Rattle.frz_atlas.specs.declared.fault.BackFault.{BackFault}
use Rattle.frz_atlas.specs.declared.fault.BackFault.TheVariants.{Refused}
use Rattle.frz_answer.specs.Answers.{Answer, says}
use Rattle.frz_prelude.specs.Refusals.{table_status}
use Rattle.frz_prelude.specs.TableCauses.{table_line}
use Rattle.frz_atlas_prelude.specs.BackLines.{back_line, back_status}

-- TABLE is refused, and the line says why
pub record RefusesTable (table : List ℕ) (files : Files) (a : Answer) : Type 0 where
  pub fault : TableFault
  pub refused : opened own_format (files table) ≡ Err fault
  pub told : a ≡ says (table_status fault) (table_line fault) files

-- TABLE opens. The BACK at this place is refused, and all before it are exact; the line counts
-- places from 1
pub record RefusesBehind (table : List ℕ) (behind : List (List ℕ)) (files : Files)
    (a : Answer) : Type 0 where
  pub opens : OpensOwn (files table)
  pub place : ℕ
  pub fault : BackFault
  pub refused : IsRefusedAt [] (map files behind) place fault
  pub told : a ≡ says (back_status fault) (back_line place fault) files

-- TABLE opens, and the BACK at this place is the first that is refused where none is checked; the
-- line counts places from 1
pub record RefusesOpening (table : List ℕ) (behind : List (List ℕ)) (files : Files)
    (a : Answer) : Type 0 where
  pub opens : OpensOwn (files table)
  pub place : ℕ
  pub fault : TableFault
  pub refused : opened_all (map files behind) ≡ Err (place, fault)
  pub told : a ≡ says (table_status fault) (back_line place (Refused fault)) files

-- TABLE is refused, or one of the BACKs, where none is checked
pub data TellsRefusal (table : List ℕ) (behind : List (List ℕ)) (files : Files)
    (a : Answer) : Type 0 where
  of_table : RefusesTable table files a → TellsRefusal table behind files a
  of_back : RefusesOpening table behind files a → TellsRefusal table behind files a
