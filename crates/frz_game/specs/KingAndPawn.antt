-- King and pawn against king, and what the pawn may become.
use Rattle.std.specs.Prelude.{[], ◌∷◌, map}
use Rattle.std.specs.List.{range_with_len}
use Rattle.frz_board.specs.declared.man.Colour.TheVariants.{White, Black}
use Rattle.frz_board.specs.declared.man.Kind.TheVariants.{King, Queen, Rook, Bishop, Knight, Pawn}
use Rattle.frz_sets.specs.Views.{GroupLine, RuleLines}
use Rattle.frz_game.specs.WholeSets.{each_everywhere}

-- group white 1 K:all and group black 1 K:all
abbrev pub white_king : GroupLine
white_king = record { colour = White; least = 1; most = 1; states = each_everywhere (King ∷ []) }

abbrev pub black_king : GroupLine
black_king = record { colour = Black; least = 1; most = 1; states = each_everywhere (King ∷ []) }

-- group white 1 P:a2-h7
abbrev pub white_pawn : GroupLine
white_pawn = record {
  colour = White;
  least = 1;
  most = 1;
  states = map (λ s. (Pawn, s)) (range_with_len 8 48);
}

-- group white 0-1 Q:all R:all B:all N:all
abbrev pub white_officer : GroupLine
white_officer = record {
  colour = White;
  least = 0;
  most = 1;
  states = each_everywhere (Queen ∷ Rook ∷ Bishop ∷ Knight ∷ []);
}

-- king and pawn against king
abbrev pub king_and_pawn : RuleLines
king_and_pawn =
    record { groups = white_king ∷ white_pawn ∷ black_king ∷ []; forbids = []; exits = [] }

-- what the pawn may become, and the bare kings
abbrev pub pawn_back : RuleLines
pawn_back =
    record { groups = white_king ∷ white_officer ∷ black_king ∷ []; forbids = []; exits = [] }
