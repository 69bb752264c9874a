-- A table of the former format, rewritten: each position keeps its code, at its number of today.
use Rattle.std.specs.Prelude.{◌≡◌, ℕ, ◌<◌, List, length, slice_index, Option, Some, None}
use Rattle.frz_board.specs.Boards.{Board}
use Rattle.frz_board.specs.declared.man.Colour.{Colour}
use Rattle.frz_board.specs.declared.man.Colour.TheVariants.{White, Black}
use Rattle.frz_index.specs.Membership.{position_at}
use Rattle.frz_index.specs.OldNumbers.{OldNum, old_size_of}
use Rattle.frz_sets.specs.Sets.{size_of}
use Rattle.frz_sets.specs.Views.{GroupLine}
use Rattle.frz_table.specs.declared.kind.FileKind.TheVariants.{Plain}
use Rattle.frz_table.specs.Layout.{codes_at, file_of, magic_of}
use Rattle.frz_table.specs.Opening.{Contents}
use Rattle.frz_commands_table.specs.declared.tallies.TheConstants.{BROKEN}

-- the code at a number of today: the code that its position has at its former number, and 0 where
-- the number is broken
abbrev pub moved_code : List GroupLine → List ℕ → Option Board → ℕ
moved_code groups old None = BROKEN
moved_code groups old (Some p) = slice_index old (OldNum groups p)

-- `new` holds a side's codes in the order of today's numbers, `old` in that of the former ones.
-- Codes at broken former numbers are dropped
pub record AreMoved (groups : List GroupLine) (old new : List ℕ) : Type 0 where
  pub many : length new ≡ size_of groups
  pub moved : (i : ℕ) → i < size_of groups
      → slice_index new i ≡ moved_code groups old (position_at groups i)

-- the codes of the side that a file of the former format holds, in the order of the former numbers
abbrev pub former_codes : Contents → List ℕ → Colour → List ℕ
former_codes contents bytes side =
    codes_at side contents.text (old_size_of contents.rules.groups) bytes

-- the new bytes are a table of the same text, with the size that its set has today and the moved
-- codes of both sides
pub record IsMigrated (contents : Contents) (bytes new_bytes : List ℕ) : Type 0 where
  pub white : List ℕ
  pub black : List ℕ
  pub white_moved : AreMoved contents.rules.groups (former_codes contents bytes White) white
  pub black_moved : AreMoved contents.rules.groups (former_codes contents bytes Black) black
  pub whole : new_bytes ≡ file_of (magic_of Plain) contents.text (size_of contents.rules.groups)
      white black
