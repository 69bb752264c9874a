-- The value that rules give a position outside the set.
use Rattle.std.specs.Prelude.{List, [], ◌∷◌, if◌then◌else◌}
use Rattle.frz_board.specs.Boards.{Board}
use Rattle.frz_sets.specs.declared.exit.Value.{Value}
use Rattle.frz_sets.specs.declared.exit.Value.TheVariants.{Unknown}
use Rattle.frz_sets.specs.Views.{ExitLine, RuleLines}
use Rattle.frz_exits.specs.Conditions.{conditions_hold}

-- the value of the first line all of whose conditions hold, else unknown
abbrev pub first_value : List ExitLine → Board → Value
first_value [] q = Unknown
first_value (line ∷ lines) q =
    if conditions_hold q line.conds then line.value else first_value lines q

abbrev pub value_by : RuleLines → Board → Value
value_by rules q = first_value rules.exits q
