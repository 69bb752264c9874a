-- The report of the codes that were loaded is one of the table's file.
use Rattle.std.proofs.Common.{◌≡◌, refl, sym, subst, ◌∙◌, inl, inr, ℕ, List, Option, Result, Ok, Err}
use Rattle.frz_board.specs.declared.man.Colour.{Colour}
use Rattle.frz_board.specs.declared.man.Colour.TheVariants.{White, Black}
use Rattle.frz_exits.specs.Books.{value_by}
use Rattle.frz_graph.specs.EntryCodes.{of_side}
use Rattle.frz_store.specs.Files.{Files}
use Rattle.frz_store.specs.Told.{StoreTold, SinkTold, StoreFine}
use Rattle.frz_table.specs.declared.fault.TableFault.{TableFault}
use Rattle.frz_table.specs.declared.fault.TableFault.TheVariants as table
use Rattle.frz_table.specs.Faults.{IsOutside, TableCauses}
use Rattle.frz_table.specs.Opening.{contents_of}
use Rattle.frz_table.specs.Possible.{MayKeep}
use Rattle.frz_table.specs.Tables.{Table}
use Rattle.frz_check.specs.Kept.{kept_codes}
use Rattle.frz_report.specs.declared.fault.ReportFault.{ReportFault}
use Rattle.frz_report.specs.declared.fault.ReportFault.TheVariants.{Store, Output, NoMemory}
use Rattle.frz_report.specs.declared.fault.Totals.{Totals}
use Rattle.frz_report.specs.Reports.{StoreCause, WritesOfFile, WritesOfTable, WritesReport, unloaded}

module _ (files : Option Files) (tab : Table) (old new : SinkTold) where
  by_file : (result : Result Totals ReportFault) → (result ≡ Err Store → ⊥)
      → WritesOfFile files tab result old new → WritesOfTable files tab result old new
  by_file (Ok totals) never h = h
  by_file (Err Store) never h = absurd (never refl)
  by_file (Err Output) never h = h
  by_file (Err NoMemory) never h = inr h

  -- the codes that were loaded are those of a file that the name may hold
  pub loaded_writes : (result : Result Totals ReportFault)
      (white black white_slice black_slice : List ℕ) → MayKeep files tab white black
      → white_slice ≡ white → black_slice ≡ black
      → (result ≡ Err Store → ⊥)
      → WritesReport tab.rules (value_by tab.rules) (λ side. of_side side white_slice black_slice)
      result old new
      → WritesOfTable files tab result old new
  loaded_writes result white black white_slice black_slice kept white_is black_is never h =
      by_file result never (record {
        bytes = kept.bytes;
        may = kept.may;
        file = kept.file;
        wrote = subst (λ (c : Colour → List ℕ). WritesReport tab.rules (value_by tab.rules) c result
            old new) (λ j side. slices_are_kept side j) h;
      })
    where
      slices_are_kept : (side : Colour)
          → of_side side white_slice black_slice ≡ kept_codes (contents_of tab)
          kept.bytes side
      slices_are_kept White = white_is ∙ sym kept.white_is
      slices_are_kept Black = black_is ∙ sym kept.black_is

-- nothing is written where the codes were not loaded
pub unloaded_writes : (files : Option Files) (tab : Table) (out : SinkTold) (fault : TableFault)
    (result : ReportFault) → result ≡ unloaded fault → IsOutside fault
    → WritesOfTable files tab (Err result) out out
unloaded_writes files tab out fault result is outside =
    subst (λ (f : ReportFault). WritesOfTable files tab (Err f) out out) (sym is)
    (nothing_written fault outside)
  where
    nothing_written : (fault : TableFault) → IsOutside fault
        → WritesOfTable files tab (Err (unloaded fault)) out out
    nothing_written table.Missing h = absurd h
    nothing_written table.Magic h = absurd h
    nothing_written (table.Other other) h = absurd h
    nothing_written (table.Truncated length due) h = absurd h
    nothing_written (table.Extra length due) h = absurd h
    nothing_written (table.Rules why) h = absurd h
    nothing_written (table.Size kept due) h = absurd h
    nothing_written table.Failed h = refl
    nothing_written table.NoMemory h = inl refl

pub unloaded_cause : {T : Type 0} (old new : StoreTold) (fault : TableFault) (result : ReportFault)
    → result ≡ unloaded fault → IsOutside fault
    → TableCauses {T = T} old.faults new.faults old.wants new.wants (Err fault)
    → StoreCause (Err result) old new
unloaded_cause {T} old new fault result is outside causes =
    subst (λ (f : ReportFault). StoreCause (Err f) old new) (sym is)
    (store_cause fault outside causes)
  where
    store_cause : (fault : TableFault) → IsOutside fault
        → TableCauses {T = T} old.faults new.faults old.wants new.wants (Err fault)
        → StoreCause (Err (unloaded fault)) old new
    store_cause table.Missing h k = absurd h
    store_cause table.Magic h k = absurd h
    store_cause (table.Other other) h k = absurd h
    store_cause (table.Truncated length due) h k = absurd h
    store_cause (table.Extra length due) h k = absurd h
    store_cause (table.Rules why) h k = absurd h
    store_cause (table.Size kept due) h k = absurd h
    store_cause table.Failed h k = k.failed refl
    store_cause table.NoMemory h k = tt

pub loaded_cause : (old new : StoreTold) (result : Result Totals ReportFault) → StoreFine old new
    → (result ≡ Err Store → ⊥) → StoreCause result old new
loaded_cause old new (Ok totals) fine never = fine
loaded_cause old new (Err Store) fine never = absurd (never refl)
loaded_cause old new (Err Output) fine never = fine
loaded_cause old new (Err NoMemory) fine never = tt
