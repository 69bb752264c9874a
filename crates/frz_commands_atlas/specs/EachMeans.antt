-- What the answers of `each TABLE FEN BACK ..` mean, and what it is to do.
use Rattle.std.specs.Prelude.{◌≡◌, ℕ, List, [], ◌∷◌, ◌++◌, All, length, map, true, false, Some, Ok, codes}
use Rattle.frz_board.specs.declared.man.Colour.TheVariants.{White, Black}
use Rattle.frz_board.specs.Boards.{Board}
use Rattle.frz_fen.specs.Reading.{fen_of}
use Rattle.frz_fide.specs.Legal.{after}
use Rattle.frz_index.specs.Members.{Member}
use Rattle.frz_sets.specs.declared.exit.Value.{Value}
use Rattle.frz_sets.specs.Views.{RuleLines}
use Rattle.frz_store.specs.Files.{Files}
use Rattle.frz_arena.specs.declared.arm.Next.TheVariants.{Inside}
use Rattle.frz_table.specs.Opening.{Contents}
use Rattle.frz_check.specs.KeptTables.{KeepsBound, KeepsTables}
use Rattle.frz_atlas.specs.Behind.{AreJudged, TableBytes}
use Rattle.frz_atlas.specs.Loading.{opened_all}
use Rattle.frz_answer.specs.declared.status.Status.{Status}
use Rattle.frz_answer.specs.declared.status.Status.TheVariants.{Success, Table, Outside as Apart, Missing}
use Rattle.frz_answer.specs.Answers.{Answer}
use Rattle.frz_answer.specs.Jobs.{Job, Once, plain, WithinCosts}
use Rattle.frz_bound_lines.specs.BoundLines.{bound_text, side_name}
use Rattle.frz_prelude.specs.Positions.{on_position}
use Rattle.frz_atlas_prelude.specs.Given.{GivenNames, given_words}
use Rattle.frz_atlas_prelude.specs.OwnFiles.{OpensAsOwn}
use Rattle.frz_atlas_prelude.specs.TableRefusals.{TellsRefusal}
use Rattle.frz_commands_atlas.specs.declared.rows.Row.{Row}
use Rattle.frz_commands_atlas.specs.Each.{IsEachAt, each_costs, found_over}
use Rattle.frz_commands_atlas.specs.FirstBack.{Found}
use Rattle.frz_commands_atlas.specs.MoveRows.{rows_in}
use Rattle.frz_commands_atlas.specs.Ranked.{IsRanked, rank_for}
use Rattle.frz_commands_atlas.specs.Reporting.{value_behind}
use Rattle.frz_commands_atlas.specs.RowLines.{both_words, each_text}

-- the row's words are those of the bounds of both sides after the move, and the bounds say of chess
-- what Means states, under the premise that the exits are true
pub record TellsBoundsAfter (rules : RuleLines) (value : Board → Value) (p : Board)
    (row : Row) : Type 0 where
  pub inside : Member rules.groups (after p row.arm.mv)
  pub white : KeepsBound rules value White (after p row.arm.mv) row.white
  pub black : KeepsBound rules value Black (after p row.arm.mv) row.black
  pub told : both_words row.white row.black
      ≡ (side_name White ++ bound_text white.bound)
      ++ (codes ", " ++ (side_name Black ++ bound_text black.bound))

-- a move that stays in the set tells bounds
abbrev pub TellsBehind : RuleLines → (Board → Value) → Board → Row → Type 0
TellsBehind rules value p row =
    (number : ℕ) → row.arm.next ≡ Inside number → TellsBoundsAfter rules value p row

-- of these tables the one that is told of has the position in its set, and the words are those of the
-- bounds of both sides there, which say of chess what Means states, under the premise that the exits
-- of that table are true. Its own exits have values over the tables before it
pub record TellsBoundsBehind (tables : List TableBytes) (q : Board) (found : Found) : Type 0 where
  pub before : List TableBytes
  pub table : TableBytes
  pub others : List TableBytes
  pub among : tables ≡ before ++ table ∷ others
  pub place : found.0 ≡ length before
  pub inside : Member table.contents.rules.groups q
  pub white : KeepsBound table.contents.rules
      (value_behind table.contents table.bytes before) White q found.1.0
  pub black : KeepsBound table.contents.rules
      (value_behind table.contents table.bytes before) Black q found.1.1
  pub told : both_words found.1.0 found.1.1
      ≡ (side_name White ++ bound_text white.bound)
      ++ (codes ", " ++ (side_name Black ++ bound_text black.bound))

-- TABLE and the BACKs open, the position is in TABLE's set, and the text tells each legal move once,
-- from the best on. Where the codes in TABLE are the tables of both sides by the values of some
-- book, the rows tell the bounds by these values. The book is that of the exit lines or, for a table
-- over others, that of the exit lines with the BACKs behind them. Where the BACKs are exact, each
-- over those before it, what a BACK tells of an exit are its bounds there
pub record TellsEach (table : List ℕ) (behind : List (List ℕ)) (p : Board) (files : Files)
    (text : List ℕ) : Type 0 where
  pub bytes : List ℕ
  pub contents : Contents
  pub open_file : OpensAsOwn table files bytes contents
  pub tables : List TableBytes
  pub all_open : opened_all (map files behind) ≡ Ok tables
  pub inside : Member contents.rules.groups p
  pub rows : List Row
  pub ranked : IsRanked (rank_for p.turn)
      (rows_in contents bytes (value_behind contents bytes tables) p) rows
  pub told : text ≡ each_text (found_over contents bytes tables) p rows
  pub where_exact : (value : Board → Value) → KeepsTables value contents bytes
      → All (TellsBehind contents.rules value p) rows
  pub where_judged : AreJudged tables → (q : Board) (found : Found)
      → found_over contents bytes tables q ≡ Some found → TellsBoundsBehind tables q found

-- TABLE and the BACKs open, and the position is not in TABLE's set
pub record TellsOutside (table : List ℕ) (behind : List (List ℕ)) (p : Board) (files : Files)
    (text : List ℕ) : Type 0 where
  pub bytes : List ℕ
  pub contents : Contents
  pub open_file : OpensAsOwn table files bytes contents
  pub tables : List TableBytes
  pub all_open : opened_all (map files behind) ≡ Ok tables
  pub outside : Member contents.rules.groups p → ⊥
  pub told : text ≡ codes "outside\n"

-- what an answer says, by its status
abbrev pub MeansEachBy : List ℕ → List (List ℕ) → Board → Files → Answer → Status → Type 0
MeansEachBy table behind p files a Success = TellsEach table behind p files a.text
MeansEachBy table behind p files a Table = TellsRefusal table behind files a
MeansEachBy table behind p files a Apart = TellsOutside table behind p files a.text
MeansEachBy table behind p files a Missing = TellsRefusal table behind files a
MeansEachBy table behind p files a status = ⊥

-- what an answer of `each` means: it changes no file and takes no input, and each status has its
-- cause
pub record MeansEach (table : List ℕ) (behind : List (List ℕ)) (p : Board) (files : Files)
    (a : Answer) : Type 0 where
  pub same : a.files ≡ files
  pub untaken : a.taken ≡ 0
  pub says : MeansEachBy table behind p files a a.status

-- `each` at a position, with names no two of which are the same
abbrev pub each_at : List ℕ → List (List ℕ) → Board → Job
each_at table behind p = record (plain (Success ∷ Table ∷ Apart ∷ Missing ∷ [])
    (λ files input a. IsEachAt table behind p files a)) {
      means = λ files input a. MeansEach table behind p files a;
      needs = record { store = true; reads = Once; input = false; memory = true };
      costs = λ files input a. WithinCosts (each_costs (files table) (map files behind) p);
    }

-- the FEN is read before the tables
abbrev pub each_named : GivenNames → Job
each_named names = on_position (each_at names.table names.behind) (fen_of names.fen)

-- each TABLE FEN BACK ..
abbrev pub each_words : List (List ℕ) → Job
each_words words = given_words each_named words
