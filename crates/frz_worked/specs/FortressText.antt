-- The text of the fortress of rook and pawn, as it stands in examples/fortress.
use Rattle.std.specs.Prelude.{◌++◌, ℕ, List, codes}

unfoldable pub fortress_text : List ℕ
fortress_text =
    codes "# A rook that goes between f3 and h3, guarded by the pawn on g2, against a queen.\n"
    ++ codes "freezer 1\n"
    ++ codes "group white 1 K:f1,g1,h1,h2\n"
    ++ codes "group white 0-1 R:f3,h3\n"
    ++ codes "group white 0-1 P:g2,f3,h3\n"
    ++ codes "group black 1 K:all\n"
    ++ codes "group black 1 Q:all\n"
    ++ codes "exit white holds if count:black:Q:0\n"
