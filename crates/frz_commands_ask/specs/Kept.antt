-- The codes that a table file holds at a position of its set, and what `query TABLE FEN` answers by
-- them.
use Rattle.std.specs.Prelude.{◌≡◌, ℕ, ◌+◌, ◌*◌, ◌≤◌, ◌<◌, ◌^◌, List, [], length, slice_index, Option, IfSome, Result, Ok, Err, if◌then◌else◌, ⊤}
use Rattle.std.specs.Option.{unwrap_or}
use Rattle.frz_board.specs.declared.man.Colour.{Colour}
use Rattle.frz_board.specs.declared.man.Colour.TheVariants.{White, Black}
use Rattle.frz_board.specs.Boards.{Board}
use Rattle.frz_index.specs.Members.{Member, Num}
use Rattle.frz_game.specs.Numbers.{is_member}
use Rattle.frz_store.specs.Bytes.{MayBeHeld}
use Rattle.frz_store.specs.Files.{Files}
use Rattle.frz_store.specs.Told.{StoreTold}
use Rattle.frz_table.specs.declared.fault.TableFault.{TableFault}
use Rattle.frz_table.specs.declared.kind.FileKind.{FileKind}
use Rattle.frz_table.specs.Opening.{Contents, contents_of, opened, opening_calls, format_for}
use Rattle.frz_table.specs.Possible.{held_text}
use Rattle.frz_table.specs.Tables.{Table}
use Rattle.frz_check.specs.Kept.{kept_codes}
use Rattle.frz_answer.specs.declared.status.Status.TheVariants.{Success}
use Rattle.frz_answer.specs.Answers.{Answer, says}
use Rattle.frz_bound_lines.specs.BoundLines.{kept_text}
use Rattle.frz_prelude.specs.Refusals.{status_of, refusal_line}
use Rattle.frz_prelude.specs.Stops.{Answers}
use Rattle.frz_prelude.specs.declared.refused.Refused.{Refused}
use Rattle.frz_prelude.specs.declared.refused.Refused.TheVariants as refusals
use Rattle.frz_prelude.specs.declared.stop.Stop.{Stop}
use Rattle.frz_prelude.specs.declared.stop.Stop.TheVariants as stops
use Rattle.frz_commands_ask.specs.declared.kept.KeptCodes.{KeptCodes}

-- the code of the side at the number of a position, by the bytes of a file
abbrev pub kept_at : Colour → Contents → List ℕ → Board → ℕ
kept_at side contents bytes p =
    slice_index (kept_codes contents bytes side) (Num contents.rules.groups p)

-- the codes of both sides, or the position is outside the set of the file's rules
abbrev pub kept_in : Contents → List ℕ → Board → Result KeptCodes Refused
kept_in contents bytes p =
    if is_member contents.rules.groups p
    then Ok (record {
      white = kept_at White contents bytes p;
      black = kept_at Black contents bytes p;
    })
    else Err refusals.Outside

abbrev pub kept_by : Result Contents TableFault → List ℕ → Board → Result KeptCodes Refused
kept_by (Ok contents) bytes p = kept_in contents bytes p
kept_by (Err fault) bytes p = Err (refusals.Table fault)

-- the codes of both sides at the position, where the held bytes are a table of this kind; or why
-- there are none
abbrev pub kept_of : Option FileKind → Board → Option (List ℕ) → Result KeptCodes Refused
kept_of kind p held = kept_by (opened (format_for kind) held) (unwrap_or held []) p

-- how often a file is read for the codes: once for each side, and never where there are none
abbrev pub code_reads : Result KeptCodes Refused → ℕ
code_reads (Ok codes) = 2
code_reads (Err why) = 0

-- how many calls of the store find the codes in what a name holds
abbrev pub keeping_calls : Option FileKind → Board → Option (List ℕ) → ℕ
keeping_calls kind p held =
    opening_calls (format_for kind) held + code_reads (kept_of kind p held)

-- how many bytes are asked for: those that open what the name holds, and four for each code
abbrev pub keeping_bytes : Option FileKind → Board → Option (List ℕ) → ℕ
keeping_bytes kind p held = 16 + length (held_text held) + 4 * code_reads (kept_of kind p held)

-- the lines of the codes, or the line that refuses
abbrev pub answer_by : Result KeptCodes Refused → Files → Answer
answer_by (Ok codes) files = says Success (kept_text codes.white codes.black) files
answer_by (Err why) files = says (status_of why) (refusal_line why) files

-- where the store tells, these are the codes that the table's file holds at the position; each has
-- 32 bits
pub record AreKept (table : Table) (p : Board) (told : Option Files)
    (codes : KeptCodes) : Type 0 where
  pub inside : Member table.rules.groups p
  pub white_small : codes.white < 2 ^ 32
  pub black_small : codes.black < 2 ^ 32
  pub white : IfSome told (λ m. IfSome (m table.name)
      (λ bytes. kept_at White (contents_of table) bytes p ≡ codes.white))
  pub black : IfSome told (λ m. IfSome (m table.name)
      (λ bytes. kept_at Black (contents_of table) bytes p ≡ codes.black))

-- the result is the codes of an open table, or the refusal of a position outside its set; nothing
-- is said of a fault
abbrev pub IsKeptIn : Table → Board → Option Files → Result KeptCodes Stop → Type 0
IsKeptIn table p told (Ok codes) = AreKept table p told codes
IsKeptIn table p told (Err (stops.Refused why)) =
    (Member table.rules.groups p → ⊥) × (why ≡ refusals.Outside)
IsKeptIn table p told (Err (stops.Fault fault)) = ⊤

-- the result is that of the name in some files of bytes: those that the store tells, if it tells.
-- No more bytes and calls were spent than these files take
pub record IsKept (kind : Option FileKind) (p : Board) (name : List ℕ) (result : Result KeptCodes Stop)
    (old new : StoreTold) : Type 0 where
  pub files : Files
  pub agrees : MayBeHeld old.files files
  pub due : Answers result (kept_of kind p (files name))
  pub asked : new.asked ≤ old.asked + keeping_bytes kind p (files name)
  pub calls : new.calls ≤ old.calls + keeping_calls kind p (files name)
