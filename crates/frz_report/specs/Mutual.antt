-- The mutual zugzwangs of chess in a set.
use Rattle.std.specs.Prelude.{◌≡◌, ◌⊎◌, List, None}
use Rattle.frz_board.specs.declared.man.Colour.TheVariants.{White, Black}
use Rattle.frz_board.specs.Boards.{Board}
use Rattle.frz_sets.specs.Views.{GroupLine}
use Rattle.frz_index.specs.Members.{HasNumber}
use Rattle.frz_report.specs.Squeezes.{Squeeze}
use Rattle.frz_report.specs.Zugzwangs.{IsZugzwang}

-- two positions of the set with the same men and no en passant target, White to move at the first
-- and Black at the second, and one side forces mate exactly at the one where its opponent is to
-- move. So each side does worse where it is to move
pub record IsMutual (groups : List GroupLine) (s : Squeeze) : Type 0 where
  pub other : Board
  pub first_is : HasNumber groups s.white_to_move s.position
  pub second_is : HasNumber groups s.black_to_move other
  pub no_target : s.position.ep ≡ None
  pub no_other_target : other.ep ≡ None
  pub zugzwang : IsZugzwang White other s.position ⊎ IsZugzwang Black s.position other
