-- King and rook against king, where White renounces all moves but those of the rook to g1 and g8.
use Rattle.std.specs.Prelude.{ℕ, ◌-◌, ◌^◌, [], ◌∷◌}
use Rattle.frz_board.specs.declared.man.Colour.TheVariants.{White}
use Rattle.frz_board.specs.declared.man.Kind.TheVariants.{King, Rook}
use Rattle.frz_sets.specs.declared.forbid.Only.TheVariants.{Any}
use Rattle.frz_sets.specs.Views.{RuleLines}
use Rattle.frz_game.specs.KingAndRook.{king_and_rook}

-- all squares, and all but g1 and g8
abbrev pub all_squares : ℕ
all_squares = 2 ^ 64 - 1

abbrev pub but_g1_and_g8 : ℕ
but_g1_and_g8 = all_squares - 2 ^ 6 - 2 ^ 62

-- forbid white K from all to all, forbid white R from all to a1-f8,g2-g7,h1-h8
abbrev pub renounced_rook : RuleLines
renounced_rook = record king_and_rook {
  forbids =
      record { colour = White; kind = King; from = all_squares; to = all_squares; only = Any }
      ∷ record { colour = White; kind = Rook; from = all_squares; to = but_g1_and_g8; only = Any }
      ∷ [];
}
