-- Attack and check as the laws of chess state them.
use Rattle.std.specs.Prelude.{ℕ, ◌<◌}
use Rattle.frz_board.specs.declared.man.Colour.{Colour}
use Rattle.frz_board.specs.declared.man.Kind.{Kind}
use Rattle.frz_board.specs.declared.man.Kind.TheVariants.{King}
use Rattle.frz_board.specs.Men.{other_of}
use Rattle.frz_board.specs.Boards.{Board}
use Rattle.frz_board.specs.Attacking.{Attack, Stands}

-- a man of the side stands on the board and attacks the square (FIDE 3.1)
pub record Attacker (p : Board) (by : Colour) (s : ℕ) : Type 0 where
  pub from : ℕ
  pub on_board : from < 64
  pub kind : Kind
  pub stands : Stands p by kind from
  pub attack : Attack p from s

-- a man of the other side attacks the square of the side's king (FIDE 3.9)
pub record Check (p : Board) (c : Colour) : Type 0 where
  pub square : ℕ
  pub on_board : square < 64
  pub king : Stands p c King square
  pub attacker : Attacker p (other_of c) square
