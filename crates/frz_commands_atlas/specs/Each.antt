-- What `each TABLE FEN BACK ..` answers: the bounds after each legal move, by the codes in table
-- files. No file changes.
use Rattle.std.specs.Prelude.{◌≡◌, ℕ, ◌+◌, ◌*◌, ◌≤◌, List, length, map, sum_by, MatchBool, MatchResult, Option, Some, Result, Ok, Err, if◌then◌else◌, ⊤}
use Rattle.std.specs.Global.{Vec}
use Rattle.std.specs.Result.{result_map_both}
use Rattle.frz_board.specs.declared.man.Colour.TheVariants.{White, Black}
use Rattle.frz_board.specs.Boards.{Board}
use Rattle.frz_fide.specs.Listing.{legal_moves_of}
use Rattle.frz_exits.specs.Books.{value_by}
use Rattle.frz_game.specs.Numbers.{is_member}
use Rattle.frz_index.specs.Members.{Member}
use Rattle.frz_store.specs.Files.{Files, bytes_at}
use Rattle.frz_store.specs.Told.{StoreTold}
use Rattle.frz_table.specs.declared.fault.TableFault.{TableFault}
use Rattle.frz_table.specs.Opening.{Contents, contents_of}
use Rattle.frz_table.specs.Possible.{MayHold, held_text}
use Rattle.frz_table.specs.Tables.{Table, table_size}
use Rattle.frz_atlas.specs.BackTable.{BackTable}
use Rattle.frz_atlas.specs.Books.{Back}
use Rattle.frz_atlas.specs.Links.{value_over}
use Rattle.frz_atlas.specs.Loaded.{leans_as, link_loaded}
use Rattle.frz_atlas.specs.Behind.{TableBytes, backs_in, leans, link_of}
use Rattle.frz_atlas.specs.Costs.{bytes_of, calls_of}
use Rattle.frz_atlas.specs.Held.{MayHoldAll, all_held}
use Rattle.frz_atlas.specs.Loading.{opened_all, opened_own}
use Rattle.frz_atlas.specs.Opening.{IsOwnKind, MayOpenOwn}
use Rattle.frz_atlas.specs.Reading.{IsUnopened}
use Rattle.frz_atlas.specs.declared.fault.AtlasFault.{AtlasFault}
use Rattle.frz_atlas.specs.declared.fault.BackFault.TheVariants.{Refused as RefusedBack}
use Rattle.frz_answer.specs.declared.status.Status.TheVariants.{Success}
use Rattle.frz_answer.specs.Answers.{Answer, says}
use Rattle.frz_answer.specs.Jobs.{Costs}
use Rattle.frz_prelude.specs.Refusals.{status_of, refusal_line, table_status}
use Rattle.frz_prelude.specs.TableCauses.{table_line}
use Rattle.frz_prelude.specs.declared.refused.Refused.{Refused}
use Rattle.frz_prelude.specs.declared.refused.Refused.TheVariants as refusals
use Rattle.frz_prelude.specs.declared.stop.Stop.{Stop}
use Rattle.frz_prelude.specs.declared.stop.Stop.TheVariants as stops
use Rattle.frz_atlas_prelude.specs.BackLines.{back_line}
use Rattle.frz_ways.specs.Costs.{arms_reads}
use Rattle.frz_ways.specs.Kept.{told_codes, MayRead}
use Rattle.frz_commands_atlas.specs.declared.rows.Row.{Row}
use Rattle.frz_commands_atlas.specs.FirstBack.{Found, found_behind}
use Rattle.frz_commands_atlas.specs.MoveRows.{arms_of, row_by, rows_in}
use Rattle.frz_commands_atlas.specs.Ranked.{IsRanked, rank_for}
use Rattle.frz_commands_atlas.specs.Reporting.{value_behind}
use Rattle.frz_commands_atlas.specs.RowLines.{each_text}

-- the rows of the legal moves from the best, where the position is in the set of an open table over
-- these; else the position is refused
abbrev pub AreRowsIn : Contents → List ℕ → List TableBytes → Board → Result (List Row) Refused
    → Type 0
AreRowsIn contents bytes tables p given = MatchBool (is_member contents.rules.groups p)
    (MatchResult given (IsRanked (rank_for p.turn)
    (rows_in contents bytes (value_behind contents bytes tables) p)) (λ why. ⊥))
    (given ≡ Err refusals.Outside)

-- the table that tells of a position outside the set of a table over these
abbrev pub found_over : Contents → List ℕ → List TableBytes → Board → Option Found
found_over contents bytes tables =
    found_behind (leans bytes) contents.rules (backs_in tables)

abbrev pub answer_by : (found : Board → Option Found) → Board → Result (List Row) Refused → Files
    → Answer
answer_by found p (Ok rows) files = says Success (each_text found p rows) files
answer_by found p (Err why) files = says (status_of why) (refusal_line why) files

-- the answer tells the rows of a table over these, or why there are none
pub record IsEachOver (contents : Contents) (bytes : List ℕ) (tables : List TableBytes) (p : Board)
    (files : Files) (a : Answer) : Type 0 where
  pub given : Result (List Row) Refused
  pub rows : AreRowsIn contents bytes tables p given
  pub told : a ≡ answer_by (found_over contents bytes tables) p given files

-- the answer by how the files open: TABLE is refused first, and then the first BACK that is
abbrev pub IsEachBehind : Contents → List ℕ → Result (List TableBytes) (ℕ × TableFault) → Board
    → Files → Answer → Type 0
IsEachBehind contents bytes (Ok tables) p files a = IsEachOver contents bytes tables p files a
IsEachBehind contents bytes (Err refused) p files a =
    a ≡ says (table_status refused.1) (back_line refused.0 (RefusedBack refused.1)) files

abbrev pub IsEachBy : Result Contents TableFault → List ℕ
    → Result (List TableBytes) (ℕ × TableFault) → Board → Files → Answer → Type 0
IsEachBy (Ok contents) bytes behind p files a = IsEachBehind contents bytes behind p files a
IsEachBy (Err fault) bytes behind p files a =
    a ≡ says (table_status fault) (table_line fault) files

-- the answer of `each` on the file that has the name and those that have the names behind it
abbrev pub IsEachAt : List ℕ → List (List ℕ) → Board → Files → Answer → Type 0
IsEachAt table behind p files a =
    IsEachBy (opened_own (files table)) (bytes_at files table) (opened_all (map files behind)) p
    files a

-- how many moves of the position stay in the set; of a position outside, none is looked at
abbrev pub staying_in : Contents → Board → ℕ
staying_in contents p =
    if is_member contents.rules.groups p
    then arms_reads (arms_of contents.rules (value_by contents.rules) p) else 0

abbrev pub staying_by : Result Contents TableFault → Board → ℕ
staying_by (Ok contents) p = staying_in contents p
staying_by (Err fault) p = 0

abbrev pub staying : Option (List ℕ) → Board → ℕ
staying held p = staying_by (opened_own held) p

-- how many calls of the store find the rows in what the names hold: at most seven open TABLE, and
-- two read the codes behind each move that stays in the set; the others load the BACKs
abbrev pub each_calls : Option (List ℕ) → List (Option (List ℕ)) → Board → ℕ
each_calls held behind p = 7 + 2 * staying held p + sum_by calls_of behind

-- how many bytes are asked for: at most 24 and the text, and four for each code, and those that
-- load the BACKs
abbrev pub each_bytes : Option (List ℕ) → List (Option (List ℕ)) → Board → ℕ
each_bytes held behind p =
    24 + length (held_text held) + 8 * staying held p + sum_by bytes_of behind

-- the costs of `each`. The moves are listed twice, in a step each: to read and to write. In algebraic
-- notation, those after a move that gives check are listed too, to tell mate
abbrev pub each_costs : Option (List ℕ) → List (Option (List ℕ)) → Board → Costs
each_costs held behind p = record {
  steps = Some (2 + length (legal_moves_of p));
  calls = Some (each_calls held behind p);
  asked = Some (each_bytes held behind p);
}

-- a fault stopped the call, and nothing was refused
abbrev pub IsFault : Stop → Type 0
IsFault (stops.Refused why) = ⊥
IsFault (stops.Fault fault) = ⊤

-- where the store tells, these are the rows by the codes that the table's file holds, and else by
-- some codes; the position is in the set
pub record ReadsRows (table : Table) (backs : List Back) (p : Board) (told : Option Files)
    (rows : List Row) : Type 0 where
  pub inside : Member table.rules.groups p
  pub white : List ℕ
  pub black : List ℕ
  pub white_read : MayRead (told_codes table White told) (table_size table) white
  pub black_read : MayRead (told_codes table Black told) (table_size table) black
  pub ranked : IsRanked (rank_for p.turn) (map (row_by white black)
      (arms_of table.rules (value_over (leans_as table.kind) table.rules backs) p)) rows

-- the result is the rows of an open table over these, or the refusal of a position outside its set;
-- nothing is said of a fault
abbrev pub ReadsIn : Table → List Back → Board → Option Files → Result (List Row) Stop → Type 0
ReadsIn table backs p told (Ok rows) = ReadsRows table backs p told rows
ReadsIn table backs p told (Err (stops.Refused why)) =
    (Member table.rules.groups p → ⊥) × (why ≡ refusals.Outside)
ReadsIn table backs p told (Err (stops.Fault fault)) = ⊤

-- the rows in the result
abbrev pub rows_given : Result (Vec Row) Stop → Result (List Row) Stop
rows_given result = result_map_both (λ rows. rows.items) (λ stop. stop) result

-- the name may hold a table that opens, and those behind may hold tables that open, and these are
-- they, the others with their codes
pub record OpensTables (table : List ℕ) (behind : List (List ℕ)) (old new : StoreTold)
    (given : Table) (backs : List BackTable) : Type 0 where
  pub opens : MayOpenOwn old.files table (contents_of given)
  pub kind : IsOwnKind given.kind
  pub named : given.name ≡ table
  pub tables : List TableBytes
  pub may_all : MayHoldAll old.files behind (all_held tables)
  pub all_open : opened_all (all_held tables) ≡ Ok tables
  pub all_keep : map link_loaded backs ≡ map link_of tables
  pub asked : new.asked ≤
      old.asked + (24 + length given.text + sum_by bytes_of (all_held tables))
  pub calls : new.calls ≤ old.calls + (7 + sum_by calls_of (all_held tables))

-- the names may hold what is refused for this reason
pub record RefusesTables (table : List ℕ) (behind : List (List ℕ)) (old new : StoreTold)
    (fault : AtlasFault) : Type 0 where
  pub held : Option (List ℕ)
  pub may : MayHold old.files table held
  pub helds : List (Option (List ℕ))
  pub may_all : MayHoldAll old.files behind helds
  pub refuses : IsUnopened opened_own held helds fault
  pub asked : new.asked ≤ old.asked + (24 + length (held_text held) + sum_by bytes_of helds)
  pub calls : new.calls ≤ old.calls + (7 + sum_by calls_of helds)
