-- The text of each line that `premises` writes.
use Rattle.std.specs.Prelude.{ℕ, ◌+◌, ◌≤◌, List, ◌++◌, codes, decimal, ⊤}
use Rattle.frz_fen.specs.Writing.{fen_text}
use Rattle.frz_bound_lines.specs.BoundLines.{side_name}
use Rattle.frz_premises.specs.declared.basis.Basis.{Basis}
use Rattle.frz_premises.specs.declared.basis.Basis.TheVariants as basis
use Rattle.frz_premises.specs.declared.sides.Strength.{Strength}
use Rattle.frz_premises.specs.declared.sides.Strength.TheVariants as strength
use Rattle.frz_premises.specs.Needs.{IsTellable}
use Rattle.frz_atlas_prelude.specs.BackLines.{back_word}
use Rattle.frz_atlas_prelude.specs.declared.names.TheConstants.{MOST_BACKS}
use Rattle.frz_commands_premises.specs.declared.line.Line.{Line}
use Rattle.frz_commands_premises.specs.declared.line.Line.TheVariants.{Back, Rules, Exit, Believed, Side}

-- what an exit line rests on; a table is named by its place, counted from 1, and `place` counts
-- from 0
abbrev pub basis_words : Basis → List ℕ
basis_words basis.AsksNothing = codes " asks nothing\n"
basis_words basis.ByMen = codes " true by the men\n"
basis_words (basis.ByTable place) = codes " proved by back " ++ decimal (place + 1) ++ codes "\n"
basis_words basis.ByTables = codes " proved by several backs\n"
basis_words (basis.Believed q) = codes " believed " ++ (fen_text q ++ codes "\n")

-- what the bounds of a side are in chess
abbrev pub strength_words : Strength → List ℕ
strength_words strength.Believed = codes " true if believed\n"
strength_words strength.Renounced = codes " true, moves renounced\n"
strength_words strength.Undecided = codes " true, exits undecided\n"
strength_words strength.Outcomes = codes " exact but for plies\n"
strength_words strength.Exact = codes " exact\n"

abbrev pub line_text : Line → List ℕ
line_text (Back place) = back_word place ++ codes "\n"
line_text Rules = codes "rules\n"
line_text (Exit number rests) = (codes "line " ++ decimal number) ++ basis_words rests
line_text (Believed count) = codes "believed " ++ decimal count ++ codes "\n"
line_text (Side side strong) = side_name side ++ strength_words strong

-- what the line tells can be written: a table is one of the most that a command takes, or the one
-- behind them all, and an exit is a valid position
abbrev pub IsWritable : Line → Type 0
IsWritable (Back place) = place ≤ MOST_BACKS
IsWritable Rules = ⊤
IsWritable (Exit number rests) = IsTellable MOST_BACKS rests
IsWritable (Believed count) = ⊤
IsWritable (Side side strong) = ⊤
