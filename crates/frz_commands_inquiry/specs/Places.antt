-- What the tables answer to a position: what stands on its line.
use Rattle.std.specs.Prelude.{ℕ, suc, ◌-◌, ◌/◌, Bool, true, false, List, [], ◌∷◌, ◌++◌, Option, Some, None, Result, Ok, Err, if◌then◌else◌, codes, decimal}
use Rattle.frz_board.specs.declared.man.Colour.{Colour}
use Rattle.frz_board.specs.declared.man.Colour.TheVariants.{White, Black}
use Rattle.frz_board.specs.Boards.{Board}
use Rattle.frz_fen.specs.declared.fault.FenFault.{FenFault}
use Rattle.frz_fen.specs.Reading.{fen_of}
use Rattle.frz_sets.specs.declared.exit.Value.{Value}
use Rattle.frz_sets.specs.declared.exit.Value.TheVariants.{Unknown}
use Rattle.frz_exits.specs.Books.{value_by}
use Rattle.frz_arena.specs.Codes.{is_failure}
use Rattle.frz_atlas.specs.Behind.{value_behind}
use Rattle.frz_atlas.specs.Books.{Back}
use Rattle.frz_atlas.specs.Codes.{codes_of}
use Rattle.frz_atlas.specs.Links.{Link}
use Rattle.frz_bound_lines.specs.BoundLines.{kept_words, side_name}
use Rattle.frz_prelude.specs.Causes.{fen_cause}
use Rattle.frz_atlas_prelude.specs.BackLines.{back_word}
use Rattle.frz_ways.specs.Texts.{value_text}
use Rattle.frz_commands_inquiry.specs.Trimmed.{trimmed}

-- the words of a code. Of a failure they say within how many plies, where `query` says `none`
abbrev pub code_words : ℕ → List ℕ
code_words code =
    if is_failure code then codes " fails within " ++ decimal ((code - 3) / 2) else kept_words code

abbrev pub side_text : Colour → ℕ → List ℕ
side_text side code = side_name side ++ code_words code

abbrev pub both_text : (white black : ℕ) → List ℕ
both_text white black = side_text White white ++ (codes ", " ++ side_text Black black)

-- the codes of the table at this place, or what else is said where its set has no such position
abbrev pub behind_or : (place : ℕ) → (else_text : List ℕ) → Option (ℕ × ℕ) → List ℕ
behind_or place else_text None = else_text
behind_or place else_text (Some found) =
    back_word place ++ (codes " " ++ both_text found.0 found.1)

-- the value of the exit lines, if they give one, and else what else is said
abbrev pub exit_or : (else_text : List ℕ) → Value → List ℕ
exit_or else_text Unknown = else_text
exit_or else_text value = codes "exit " ++ value_text value

-- the codes in the first of these tables whose set has the position, and the last value where no
-- set has it; the first table has this place
unfoldable pub behind_text : (place : ℕ) → (last : Value) → List Back → Board → List ℕ
behind_text place last [] p = exit_or (codes "outside") last
behind_text place last (back ∷ backs) p =
    behind_or place (behind_text (suc place) last backs p) (codes_of back p)

-- the tables that stand behind the exit lines: none, where the table does not lean on others
abbrev pub leaning_on : (leans : Bool) → List Back → List Back
leaning_on true backs = backs
leaning_on false backs = []

-- the value by the exit lines behind all tables, which only a table that leans on others has
abbrev pub last_value : Link → Board → Value
last_value own p = if own.leans then value_behind own.rules p else Unknown

-- of a position outside the set of the table: the exit lines are asked first, and then, where the
-- table leans on others, those behind it, and last the exit lines behind them all
abbrev pub outside_text : Link → List Back → Board → List ℕ
outside_text own backs p = exit_or
    (behind_text 0 (last_value own p) (leaning_on own.leans backs) p) (value_by own.rules p)

abbrev pub found_or : (else_text : List ℕ) → Option (ℕ × ℕ) → List ℕ
found_or else_text None = else_text
found_or else_text (Some found) = both_text found.0 found.1

-- the codes of both sides where the position is in the set of the table
abbrev pub place_text : Link → List Back → Board → List ℕ
place_text own backs p = found_or (outside_text own backs p) (codes_of own.back p)

abbrev pub read_text : Link → List Back → Result Board FenFault → List ℕ
read_text own backs (Ok p) = place_text own backs p
read_text own backs (Err fault) = codes "fen: " ++ fen_cause fault

-- what is answered to a line; blanks at its ends do not matter
abbrev pub reply_to : Link → List Back → (line : List ℕ) → List ℕ
reply_to own backs line = read_text own backs (fen_of (trimmed line))
