-- Mutual zugzwangs of chess.
use Rattle.std.specs.Prelude.{◌≡◌}
use Rattle.frz_board.specs.declared.man.Colour.{Colour}
use Rattle.frz_board.specs.Boards.{Board}
use Rattle.frz_board.specs.Men.{other_of}
use Rattle.frz_arena.specs.Chess.{NeverForcesMate}
use Rattle.frz_arena.specs.WholeTruth.{CanForceMate}
use Rattle.frz_game.specs.Games.{chess}

-- the same men: the side forces mate if its opponent is to move, and cannot if it is to move itself
pub record IsZugzwang (side : Colour) (theirs mine : Board) : Type 0 where
  pub same_men : theirs.cells ≡ mine.cells
  pub their_turn : theirs.turn ≡ other_of side
  pub my_turn : mine.turn ≡ side
  pub forced : CanForceMate chess side theirs
  pub unforced : NeverForcesMate chess side mine
