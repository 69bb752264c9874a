-- The exit lines behind the first line `exit unknown if always`.
use Rattle.std.specs.Prelude.{not, ◌+◌, ℕ, Bool, true, false, ◌&&◌, List, [], ◌∷◌, drop, Option, Some, None}
use Rattle.std.specs.List.{position_from}
use Rattle.frz_board.specs.Boards.{Board}
use Rattle.frz_sets.specs.declared.exit.Test.{Test}
use Rattle.frz_sets.specs.declared.exit.Test.TheVariants.{Turn, Count, On, Distance, Check, Always}
use Rattle.frz_sets.specs.declared.exit.Value.{Value}
use Rattle.frz_sets.specs.Views.{Condition, ExitLine, RuleLines}
use Rattle.frz_exits.specs.Books.{first_value}
use Rattle.frz_exits.specs.Values.{is_unknown}

abbrev pub is_always : Test → Bool
is_always Always = true
is_always (Turn _) = false
is_always (Count _ _ _ _) = false
is_always (On _ _ _) = false
is_always (Distance _ _ _ _) = false
is_always Check = false

-- the conditions are the one condition `always`
abbrev pub are_always : List Condition → Bool
are_always [] = false
are_always (c ∷ []) = not c.negated && is_always c.test
are_always (c ∷ d ∷ conds) = false

-- it is the line `exit unknown if always`
abbrev pub ends_lines : ExitLine → Bool
ends_lines line = is_unknown line.value && are_always line.conds

-- the lines behind this place, none where there is no place
abbrev pub lines_past : Option ℕ → List ExitLine → List ExitLine
lines_past None lines = []
lines_past (Some i) lines = drop (i + 1) lines

-- the lines behind the first such line
unfoldable pub lines_behind : List ExitLine → List ExitLine
lines_behind lines = lines_past (position_from ends_lines 0 lines) lines

-- the value of the first of them that fits
abbrev pub value_behind : RuleLines → Board → Value
value_behind rules q = first_value (lines_behind rules.exits) q
