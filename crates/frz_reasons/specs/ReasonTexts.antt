-- The lines that tell a failing way and the denials of a hold.
use Rattle.std.specs.Prelude.{ℕ, List, [], ◌∷◌, ◌++◌, Option, Some, None, codes}
use Rattle.frz_board.specs.Moving.{Step}
use Rattle.frz_board.specs.Texts.{text_of}
use Rattle.frz_sets.specs.declared.exit.Value.{Value}
use Rattle.frz_arena.specs.declared.arm.Arm.{Arm}
use Rattle.frz_reasons.specs.declared.denial.Denial.{Denial}

-- the moves, one a line
abbrev pub moves_text : List (Arm Step ℕ Value) → List ℕ
moves_text [] = []
moves_text (a ∷ arms) = (text_of a.mv ++ codes "\n") ++ moves_text arms

-- a reply behind its move, on the same line
abbrev pub reply_text : Option Step → List ℕ
reply_text None = []
reply_text (Some reply) = codes " " ++ text_of reply

-- a denial on its line
abbrev pub denial_line : Denial → List ℕ
denial_line denial = text_of denial.mv ++ (reply_text denial.reply ++ codes "\n")

abbrev pub denials_text : List Denial → List ℕ
denials_text [] = []
denials_text (denial ∷ rest) = denial_line denial ++ denials_text rest
