-- The texts of king and rook against king, as they stand in examples/rook and examples/two_squares.
use Rattle.std.specs.Prelude.{◌++◌, ℕ, List, codes}

unfoldable pub rook_text : List ℕ
rook_text =
    codes "# King and rook against king: a draw where the rook is gone.\n"
    ++ codes "freezer 1\n"
    ++ codes "group white 1 K:all\n"
    ++ codes "group white 1 R:all\n"
    ++ codes "group black 1 K:all\n"
    ++ codes "exit draw if count:white:R:0\n"

unfoldable pub two_squares_text : List ℕ
two_squares_text =
    codes "# King and rook against king, where White renounces all moves "
    ++ codes "but those of the rook to g1 and g8.\n"
    ++ codes "freezer 1\n"
    ++ codes "group white 1 K:all\n"
    ++ codes "group white 1 R:all\n"
    ++ codes "group black 1 K:all\n"
    ++ codes "forbid white K from all to all\n"
    ++ codes "forbid white R from all to a1-f8,g2-g7,h1-h8\n"
    ++ codes "exit draw if count:white:R:0\n"
