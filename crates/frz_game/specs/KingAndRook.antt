-- King and rook against king: a draw where the rook is gone.
use Rattle.std.specs.Prelude.{false, [], ◌∷◌}
use Rattle.frz_board.specs.declared.man.Colour.TheVariants.{White, Black}
use Rattle.frz_board.specs.declared.man.Kind.TheVariants.{King, Rook}
use Rattle.frz_sets.specs.declared.exit.Test.TheVariants.{Count}
use Rattle.frz_sets.specs.declared.exit.Value.TheVariants.{Draw}
use Rattle.frz_sets.specs.Views.{RuleLines}
use Rattle.frz_game.specs.WholeSets.{everywhere}

-- group white 1 K:all, group white 1 R:all, group black 1 K:all, exit draw if count:white:R:0
abbrev pub king_and_rook : RuleLines
king_and_rook = record {
  groups =
      record { colour = White; least = 1; most = 1; states = everywhere King }
      ∷ record { colour = White; least = 1; most = 1; states = everywhere Rook }
      ∷ record { colour = Black; least = 1; most = 1; states = everywhere King } ∷ [];
  forbids = [];
  exits =
      record {
        value = Draw;
        conds = record { negated = false; test = Count White Rook 0 0 } ∷ [];
      } ∷ [];
}
