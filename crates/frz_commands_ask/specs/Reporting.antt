-- What `report TABLE` is to do, and what its answers mean. No file changes.
use Rattle.std.specs.Prelude.{◌≡◌, ℕ, ◌+◌, ◌*◌, List, [], ◌∷◌, length, true, false, Option, Some, None, Result, Ok, Err}
use Rattle.frz_board.specs.declared.man.Colour.{Colour}
use Rattle.frz_exits.specs.Books.{value_by}
use Rattle.frz_board.specs.Boards.{Board}
use Rattle.frz_index.specs.Members.{Member}
use Rattle.frz_store.specs.Files.{Files, bytes_at}
use Rattle.frz_table.specs.declared.fault.TableFault.{TableFault}
use Rattle.frz_table.specs.declared.kind.FileKind.TheVariants.{Plain}
use Rattle.frz_table.specs.Layout.{pieces_of}
use Rattle.frz_table.specs.Opening.{Contents, opened, opening_calls, table_format}
use Rattle.frz_table.specs.Possible.{held_text}
use Rattle.frz_check.specs.Kept.{kept_codes, opened_size}
use Rattle.frz_check.specs.KeptTables.{KeepsBound, KeepsTables}
use Rattle.frz_report.specs.Reports.{report_text}
use Rattle.frz_answer.specs.declared.status.Status.{Status}
use Rattle.frz_answer.specs.declared.status.Status.TheVariants.{Success, Table, Missing}
use Rattle.frz_answer.specs.Answers.{Answer, says}
use Rattle.frz_answer.specs.Jobs.{Costs, Job, Once, plain, WithinCosts}
use Rattle.frz_answer.specs.Words.{taking, one_word_of}
use Rattle.frz_prelude.specs.Refusals.{table_status}
use Rattle.frz_prelude.specs.TableCauses.{table_line}
use Rattle.frz_prelude.specs.TableFiles.{OpensAs, TellsTableFault}
use Rattle.frz_commands_ask.specs.Kept.{kept_at}

-- the report of a file that opens, by the codes in it and the values of its own exit lines
abbrev pub report_of : Contents → List ℕ → List ℕ
report_of contents bytes =
    report_text contents.rules (value_by contents.rules) (kept_codes contents bytes)

abbrev pub report_by : Result Contents TableFault → List ℕ → Files → Answer
report_by (Ok contents) bytes files = says Success (report_of contents bytes) files
report_by (Err fault) bytes files = says (table_status fault) (table_line fault) files

-- the report of the file that has the name, or why it does not open
abbrev pub report_at : List ℕ → Files → Answer
report_at table files =
    report_by (opened (table_format Plain) (files table)) (bytes_at files table) files

-- the text is the report of the file. Where the codes in it are the tables of both sides, each code
-- that the report uses is that of the bound at its position, which says of chess what Means states,
-- under the premise that the exits are true
pub record TellsReport (table : List ℕ) (files : Files) (text : List ℕ) : Type 0 where
  pub bytes : List ℕ
  pub contents : Contents
  pub open_file : OpensAs table files bytes contents
  pub told : text ≡ report_of contents bytes
  pub where_exact : KeepsTables (value_by contents.rules) contents bytes →
      (side : Colour) (p : Board) → Member contents.rules.groups p →
      KeepsBound contents.rules (value_by contents.rules) side p (kept_at side contents bytes p)

-- what an answer says, by its status
abbrev pub MeansStatus : List ℕ → Files → Status → List ℕ → Type 0
MeansStatus table files Success text = TellsReport table files text
MeansStatus table files Table text = TellsTableFault table files text
MeansStatus table files Missing text = files table ≡ None
MeansStatus table files status text = ⊥

-- what an answer of `report` means: it changes no file and takes no input, and each status has its
-- cause
pub record MeansReport (table : List ℕ) (files : Files) (a : Answer) : Type 0 where
  pub same : a.files ≡ files
  pub untaken : a.taken ≡ 0
  pub says : MeansStatus table files a.status a.text

-- the costs of `report`: at most one step a number; the calls of the store that open the file, and
-- two for each piece of a side's codes; and no more bytes asked for than the file has
abbrev pub reporting_costs : Option (List ℕ) → Costs
reporting_costs held =
    let size = opened_size (opened (table_format Plain) held) in
    record {
      steps = Some size;
      calls = Some (opening_calls (table_format Plain) held + 2 * pieces_of size);
      asked = Some (16 + length (held_text held) + 8 * size);
    }

-- `report` of the table of this name; its lines are written one by one as they are found
abbrev pub reporting_at : List ℕ → Job
reporting_at table =
    record (plain (Success ∷ Table ∷ Missing ∷ []) (λ files input a. a ≡ report_at table files)) {
      means = λ files input a. MeansReport table files a;
      needs = record { store = true; reads = Once; input = false; memory = true };
      speaks = true;
      costs = λ files input a. WithinCosts (reporting_costs (files table));
    }

-- report TABLE
abbrev pub report_words : List (List ℕ) → Job
report_words words = taking reporting_at (one_word_of words)
