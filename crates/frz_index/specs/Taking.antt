-- A man taken by another, where each is counted by one group alone.
use Rattle.std.specs.Prelude.{ℕ, suc, ◌+◌, ◌≡◌, None, Some, List}
use Rattle.frz_board.specs.declared.man.Man.{Man}
use Rattle.frz_board.specs.Boards.{Board, man_on}
use Rattle.frz_board.specs.Moving.{Step}
use Rattle.frz_sets.specs.Views.{GroupLine}
use Rattle.frz_index.specs.Kept.{product_from}
use Rattle.frz_index.specs.Stepping.{IsSharedOnBoth, IsShare}

-- the man takes the other one, and stays what he is
pub record IsTaking (p : Board) (m : Step) (man taken : Man) : Type 0 where
  pub man_is : man_on p m.from ≡ Some man
  pub taken_is : man_on p m.to ≡ Some taken
  pub promo : m.promo ≡ None

-- the man's group may be empty: without him a number is lower by what he adds, and by one unit of
-- the group's digit
pub record IsSpare (gs : List GroupLine) (man : Man) (s loss : ℕ) : Type 0 where
  pub group : ℕ
  pub adds : ℕ
  pub share : IsShare gs man s group adds
  pub none : share.group.least ≡ 0
  pub loss_is : loss ≡ adds + product_from gs (suc group)

-- one group alone, of one man at most, counts the moving man on both squares; and one such group,
-- which may be empty, counts the taken man
pub record IsCountedTaking (gs : List GroupLine) (man taken : Man) (a b : ℕ) : Type 0 where
  pub moves : IsSharedOnBoth gs man a b
  pub loss : ℕ
  pub goes : IsSpare gs taken b loss
