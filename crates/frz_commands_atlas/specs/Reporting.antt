-- What `report TABLE BACK ..` is to do, and what its answers mean. No file changes.
use Rattle.std.specs.Prelude.{◌≡◌, ℕ, List, [], ◌∷◌, map, flat_map, slice_index, true, false, Option, Some, Result, Ok, Err}
use Rattle.frz_board.specs.declared.man.Colour.{Colour}
use Rattle.frz_board.specs.Boards.{Board}
use Rattle.frz_sets.specs.declared.exit.Value.{Value}
use Rattle.frz_game.specs.Values.{AreTrueExits}
use Rattle.frz_index.specs.Members.{Member, Num}
use Rattle.frz_store.specs.Files.{Files, bytes_at}
use Rattle.frz_table.specs.declared.fault.TableFault.{TableFault}
use Rattle.frz_table.specs.Opening.{Contents, opened, own_format}
use Rattle.frz_check.specs.Kept.{kept_codes}
use Rattle.frz_check.specs.KeptTables.{KeepsBound, KeepsTables}
use Rattle.frz_atlas.specs.Links.{AreTrueLines, own_over, value_over}
use Rattle.frz_atlas.specs.Behind.{AreJudged, TableBytes, backs_in, leans, link_of}
use Rattle.frz_atlas.specs.Costs.{size_held}
use Rattle.frz_atlas.specs.Loading.{opened_all}
use Rattle.frz_atlas.specs.declared.fault.BackFault.TheVariants.{Refused}
use Rattle.frz_report.specs.Exits.{positions_of}
use Rattle.frz_report.specs.Reports.{report_with}
use Rattle.frz_answer.specs.declared.status.Status.{Status}
use Rattle.frz_answer.specs.declared.status.Status.TheVariants.{Success, Table, Missing}
use Rattle.frz_answer.specs.Answers.{Answer, says}
use Rattle.frz_answer.specs.Jobs.{Costs, Job, Once, plain, WithinCosts}
use Rattle.frz_answer.specs.Words.{taking, unless}
use Rattle.frz_prelude.specs.Refusals.{table_status}
use Rattle.frz_prelude.specs.TableCauses.{table_line}
use Rattle.frz_atlas_prelude.specs.OwnFiles.{OpensAsOwn}
use Rattle.frz_atlas_prelude.specs.BackLines.{back_line}
use Rattle.frz_atlas_prelude.specs.Names.{file_names_of, has_twice}
use Rattle.frz_atlas_prelude.specs.TableRefusals.{TellsRefusal}
use Rattle.frz_commands_atlas.specs.Checking.{check_costs}
use Rattle.frz_commands_atlas.specs.declared.first_exits.FirstExit.{FirstExit}
use Rattle.frz_commands_atlas.specs.FirstExits.{first_line, first_report_text, listed, rarity}
use Rattle.frz_commands_atlas.specs.Ranked.{IsRanked}

-- the value of an exit of a table over these: by its exit lines and, where it leans on them, by the
-- first of these tables whose set holds the position where the lines say nothing
abbrev pub value_behind : Contents → List ℕ → List TableBytes → Board → Value
value_behind contents bytes tables = value_over (leans bytes) contents.rules (backs_in tables)

-- the report of a table over these, by the codes in it
abbrev pub report_over : Contents → List ℕ → List TableBytes → List ℕ
report_over contents bytes tables =
    first_report_text contents.rules (value_behind contents bytes tables) (kept_codes contents bytes)

-- the report of a file that opens, or the line that tells which BACK is refused first and why
abbrev pub report_behind : Contents → List ℕ → Result (List TableBytes) (ℕ × TableFault) → Files
    → Answer
report_behind contents bytes (Ok tables) files =
    says Success (report_over contents bytes tables) files
report_behind contents bytes (Err refused) files =
    says (table_status refused.1) (back_line refused.0 (Refused refused.1)) files

abbrev pub report_by : Result Contents TableFault → List ℕ
    → Result (List TableBytes) (ℕ × TableFault) → Files → Answer
report_by (Ok contents) bytes behind files = report_behind contents bytes behind files
report_by (Err fault) bytes behind files = says (table_status fault) (table_line fault) files

-- the report of the file that has the name over those that have the names behind it, or which of
-- these is refused first
abbrev pub report_at : List ℕ → List (List ℕ) → Files → Answer
report_at table behind files =
    report_by (opened own_format (files table)) (bytes_at files table)
    (opened_all (map files behind)) files

-- the text is the report of TABLE over the BACKs, with the first position of each class of open exits,
-- the most frequent class first. Where the codes in TABLE are its tables over
-- them, each code that the report uses is that of the bound at its position, which says of chess
-- what Means states, under the premise that the exits are true. They are true where the BACKs are
-- exact, each over those before it, and the exit lines of all texts are true
pub record TellsReport (table : List ℕ) (behind : List (List ℕ)) (files : Files)
    (text : List ℕ) : Type 0 where
  pub bytes : List ℕ
  pub contents : Contents
  pub open_file : OpensAsOwn table files bytes contents
  pub tables : List TableBytes
  pub all_open : opened_all (map files behind) ≡ Ok tables
  pub rows : List FirstExit
  pub ranked : IsRanked rarity
      (listed (positions_of contents.rules (value_behind contents bytes tables))) rows
  pub told : text ≡ report_with (flat_map first_line rows) contents.rules
      (value_behind contents bytes tables) (kept_codes contents bytes)
  pub where_exact : KeepsTables (value_behind contents bytes tables) contents bytes →
      (side : Colour) (p : Board) → Member contents.rules.groups p →
      KeepsBound contents.rules (value_behind contents bytes tables) side p
      (slice_index (kept_codes contents bytes side) (Num contents.rules.groups p))
  pub true_exits : AreJudged tables →
      AreTrueExits contents.rules
      (own_over (leans bytes) contents.rules (backs_in tables)) →
      AreTrueLines (map link_of tables) →
      AreTrueExits contents.rules (value_behind contents bytes tables)

-- what an answer says, by its status
abbrev pub MeansStatus : List ℕ → List (List ℕ) → Files → Answer → Status → Type 0
MeansStatus table behind files a Success = TellsReport table behind files a.text
MeansStatus table behind files a Table = TellsRefusal table behind files a
MeansStatus table behind files a Missing = TellsRefusal table behind files a
MeansStatus table behind files a status = ⊥

-- what an answer of `report` means: it changes no file and takes no input, and each status has its
-- cause
pub record MeansReport (table : List ℕ) (behind : List (List ℕ)) (files : Files)
    (a : Answer) : Type 0 where
  pub same : a.files ≡ files
  pub untaken : a.taken ≡ 0
  pub says : MeansStatus table behind files a a.status

-- the costs of `report`: at most one step a number of TABLE, and the calls and bytes of opening and
-- loading TABLE and the BACKs, which are those of `check`
abbrev pub report_costs : Option (List ℕ) → List (Option (List ℕ)) → Costs
report_costs held behind = record (check_costs held behind) { steps = Some (size_held held) }

-- `report` with names no two of which are the same; its lines are written one by one as they are
-- found
abbrev pub reporting_at : List ℕ → List (List ℕ) → Job
reporting_at table behind = record (plain (Success ∷ Table ∷ Missing ∷ [])
    (λ files input a. a ≡ report_at table behind files)) {
      means = λ files input a. MeansReport table behind files a;
      needs = record { store = true; reads = Once; input = false; memory = true };
      speaks = true;
      costs = λ files input a. WithinCosts (report_costs (files table) (map files behind));
    }

-- report TABLE BACK ..
abbrev pub report_words : List (List ℕ) → Job
report_words words =
    taking (λ names. unless (has_twice words) (reporting_at names.0 names.1))
    (file_names_of words)
