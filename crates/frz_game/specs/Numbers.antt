-- The numbers of a set as those of an arena.
use Rattle.std.specs.Prelude.{List}
use Rattle.frz_board.specs.Boards.{Board}
use Rattle.frz_sets.specs.Views.{GroupLine}
use Rattle.frz_sets.specs.Sets.{size_of}
use Rattle.frz_arena.specs.Names.{Numbering}
pub use Rattle.frz_index.specs.Membership.{is_member, number_of, position_at}

-- the numbers of the set
abbrev pub numbers_by : List GroupLine → Numbering Board
numbers_by groups = record {
  size = size_of groups;
  number = number_of groups;
  at = position_at groups;
}
