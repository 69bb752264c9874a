-- The texts of worked endings that ask nothing to be believed, as they stand in examples/.
use Rattle.std.specs.Prelude.{◌≡◌, ◌++◌, ℕ, List, Ok, codes}
use Rattle.frz_exits.specs.Books.{value_by}
use Rattle.frz_rules.specs.Text.{rules_of}
use Rattle.frz_sets.specs.Views.{RuleLines}
use Rattle.frz_game.specs.Values.{AreTrueExits}

-- the text is accepted, and the exits of its rules are true in chess
pub record IsUnconditional (text : List ℕ) : Type 0 where
  pub rules : RuleLines
  pub accepted : rules_of text ≡ Ok rules
  pub exits : AreTrueExits rules (value_by rules)

unfoldable pub pawn_text : List ℕ
pawn_text =
    codes "# King and pawn against king. Each move out of this set leads into that of pawn_back.\n"
    ++ codes "freezer 1\n"
    ++ codes "group white 1 K:all\n"
    ++ codes "group white 1 P:a2-h7\n"
    ++ codes "group black 1 K:all\n"

unfoldable pub pawn_back_text : List ℕ
pawn_back_text =
    codes "# What a pawn may become, against a king, and the bare kings. "
    ++ codes "No move leads out of this set.\n"
    ++ codes "freezer 1\n"
    ++ codes "group white 1 K:all\n"
    ++ codes "group white 0-1 Q:all R:all B:all N:all\n"
    ++ codes "group black 1 K:all\n"

unfoldable pub corner_text : List ℕ
corner_text =
    codes "# A rook's pawn against a king that keeps to six squares at its corner.\n"
    ++ codes "freezer 1\n"
    ++ codes "group white 1 K:all\n"
    ++ codes "group white 1 P:a2-a7\n"
    ++ codes "group black 1 K:a7-c8\n"

unfoldable pub corner_back_text : List ℕ
corner_back_text =
    codes "# A promotion on a8, where Black's king may take at once, and the bare kings.\n"
    ++ codes "freezer 1\n"
    ++ codes "group white 1 K:all\n"
    ++ codes "group white 0-1 Q:a8 R:a8 B:a8 N:a8\n"
    ++ codes "group black 1 K:a7-c8\n"

unfoldable pub blocked_text : List ℕ
blocked_text =
    codes "# Eight pawns that stand fast, four against four, and both kings anywhere.\n"
    ++ codes "freezer 1\n"
    ++ codes "group white 1 K:all\n"
    ++ codes "group black 1 K:all\n"
    ++ codes "group white 1 P:a4\n"
    ++ codes "group white 1 P:b3\n"
    ++ codes "group white 1 P:c4\n"
    ++ codes "group white 1 P:e4\n"
    ++ codes "group black 1 P:a5\n"
    ++ codes "group black 1 P:b4\n"
    ++ codes "group black 1 P:c5\n"
    ++ codes "group black 1 P:e5\n"

unfoldable pub wall_text : List ℕ
wall_text =
    codes "# A wall of eight pawns between two bishops of opposite colours: "
    ++ codes "neither can attack a pawn.\n"
    ++ codes "freezer 1\n"
    ++ codes "group white 1 K:all\n"
    ++ codes "group black 1 K:all\n"
    ++ codes "group white 1 P:a4\n"
    ++ codes "group white 1 P:b3\n"
    ++ codes "group white 1 P:c4\n"
    ++ codes "group white 1 P:e4\n"
    ++ codes "group black 1 P:a5\n"
    ++ codes "group black 1 P:b4\n"
    ++ codes "group black 1 P:c5\n"
    ++ codes "group black 1 P:e5\n"
    ++ codes "group white 0-1 B:b1,d1,f1,h1,a2,c2,e2,g2,b3,d3,f3,h3,"
    ++ codes "a4,c4,e4,g4,b5,d5,f5,h5,a6,c6,e6,g6,b7,d7,f7,h7,a8,c8,e8,g8\n"
    ++ codes "group black 0-1 B:a1,c1,e1,g1,b2,d2,f2,h2,a3,c3,e3,g3,b4,d4,f4,h4,"
    ++ codes "a5,c5,e5,g5,b6,d6,f6,h6,a7,c7,e7,g7,b8,d8,f8,h8\n"
