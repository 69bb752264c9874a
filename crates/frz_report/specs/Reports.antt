-- The report of a set by the codes of both sides, and how much of it was written.
use Rattle.std.specs.Prelude.{◌≡◌, ◌≢◌, ◌⊎◌, ℕ, List, [], ◌++◌, length, flat_map, Option, Some, Result, Ok, Err, ⊤}
use Rattle.frz_board.specs.declared.man.Colour.{Colour}
use Rattle.frz_board.specs.Boards.{Board}
use Rattle.frz_sets.specs.declared.exit.Value.{Value}
use Rattle.frz_sets.specs.Views.{RuleLines}
use Rattle.frz_exits.specs.Books.{value_by}
use Rattle.frz_store.specs.Files.{Files}
use Rattle.frz_store.specs.Outside.{Rose}
use Rattle.frz_store.specs.Told.{StoreTold, SinkTold, StoreFine}
use Rattle.frz_table.specs.declared.fault.TableFault.{TableFault}
use Rattle.frz_table.specs.declared.fault.TableFault.TheVariants as table
use Rattle.frz_table.specs.Opening.{contents_of}
use Rattle.frz_table.specs.Possible.{MayHold}
use Rattle.frz_table.specs.Tables.{Table, IsFileOf}
use Rattle.frz_check.specs.Kept.{kept_codes}
use Rattle.frz_answer.specs.Answers.{IsLines}
use Rattle.frz_answer.specs.Texts.{TookText, FailedWithin}
use Rattle.frz_report.specs.declared.fault.ReportFault.{ReportFault}
use Rattle.frz_report.specs.declared.fault.ReportFault.TheVariants.{Store, Output, NoMemory}
use Rattle.frz_report.specs.declared.fault.Totals.{Totals}
use Rattle.frz_report.specs.Squeezes.{squeezes}
use Rattle.frz_report.specs.Exits.{exits_of}
use Rattle.frz_report.specs.Census.{census}
use Rattle.frz_report.specs.Lines.{squeeze_line, class_line, last_line}

-- the text of a report: the squeezes by their numbers, these lines of the classes of open exits, and
-- the totals
abbrev pub report_with : (classes : List ℕ) → RuleLines → (Board → Value) → (Colour → List ℕ)
    → List ℕ
report_with classes rules value codes =
    flat_map squeeze_line (squeezes rules.groups codes)
    ++ (classes ++ last_line (length (squeezes rules.groups codes)) (length (exits_of rules value)))

-- the classes of open exits as they are first met, a line each
abbrev pub classes_text : RuleLines → (Board → Value) → List ℕ
classes_text rules value = flat_map class_line (census (exits_of rules value))

abbrev pub report_text : RuleLines → (Board → Value) → (Colour → List ℕ) → List ℕ
report_text rules value = report_with (classes_text rules value) rules value

-- the totals of the last line
abbrev pub totals_of : RuleLines → (Board → Value) → (Colour → List ℕ) → Totals
totals_of rules value codes = record {
  squeezes = length (squeezes rules.groups codes);
  unassigned = length (exits_of rules value);
}

-- the fault of a report whose codes could not be loaded
abbrev pub unloaded : TableFault → ReportFault
unloaded table.Failed = Store
unloaded fault = NoMemory

-- the sink took the text, or failed within it
abbrev pub WroteBy : {T : Type 0} → Result T ReportFault → List ℕ → SinkTold → SinkTold → Type 0
WroteBy (Err Output) text old new = FailedWithin text old new
WroteBy result text old new = TookText text old new

-- with the totals as the answer nothing is left to be written; with a fault of the store or of
-- memory something is left
abbrev pub Finishes : Result Totals ReportFault → Totals → (rest : List ℕ) → Type 0
Finishes (Ok totals) answer rest = (totals ≡ answer) × (rest ≡ [])
Finishes (Err Output) answer rest = ⊤
Finishes (Err fault) answer rest = rest ≢ []

-- whole lines that begin the report with these lines of the classes were written, and all of it where
-- the totals are answered
pub record WritesWith
    (classes : List ℕ) (rules : RuleLines) (value : Board → Value) (codes : Colour → List ℕ)
    (result : Result Totals ReportFault)
    (old new : SinkTold) : Type 0 where
  pub text : List ℕ
  pub rest : List ℕ
  pub lines : IsLines text
  pub wrote : WroteBy result text old new
  pub begins : text ++ rest ≡ report_with classes rules value codes
  pub finishes : Finishes result (totals_of rules value codes) rest

abbrev pub WritesReport : RuleLines → (Board → Value) → (Colour → List ℕ)
    → Result Totals ReportFault → SinkTold → SinkTold → Type 0
WritesReport rules value = WritesWith (classes_text rules value) rules value

-- the report of a file that the table's name may hold was written, as far as the result says
pub record WritesOfFile
    (files : Option Files) (table : Table) (result : Result Totals ReportFault)
    (old new : SinkTold) : Type 0 where
  pub bytes : List ℕ
  pub may : MayHold files table.name (Some bytes)
  pub file : IsFileOf table bytes
  pub wrote : WritesReport table.rules (value_by table.rules) (kept_codes (contents_of table) bytes)
      result old new

-- with a fault before the codes were read nothing was written; else the report of the file was
-- written, as far as the result says
abbrev pub WritesOfTable : Option Files → Table → Result Totals ReportFault → SinkTold → SinkTold
    → Type 0
WritesOfTable files table (Err Store) old new = new ≡ old
WritesOfTable files table (Err NoMemory) old new =
    (new ≡ old) ⊎ WritesOfFile files table (Err NoMemory) old new
WritesOfTable files table result old new = WritesOfFile files table result old new

-- `Store` has raised the count of faults of the store, `NoMemory` need not have raised any, and
-- with any other result the store has not failed
abbrev pub StoreCause : Result Totals ReportFault → StoreTold → StoreTold → Type 0
StoreCause (Err Store) old new = Rose old.faults new.faults
StoreCause (Err NoMemory) old new = ⊤
StoreCause result old new = StoreFine old new
