-- What the values of the exits tell of the bounds of a side.
use Rattle.std.specs.Prelude.{ℕ, Bool, true, false, nat_lt, List, map, filter_map, Option, Some, None, if◌then◌else◌}
use Rattle.std.specs.List.{list_all, list_any}
use Rattle.frz_board.specs.declared.man.Colour.{Colour}
use Rattle.frz_board.specs.declared.man.Colour.TheVariants.{White, Black}
use Rattle.frz_board.specs.Boards.{Board}
use Rattle.frz_board.specs.Men.{other_of, same_colour}
use Rattle.frz_board.specs.Moving.{Step}
use Rattle.frz_sets.specs.declared.exit.Value.{Value}
use Rattle.frz_sets.specs.Views.{RuleLines}
use Rattle.frz_arena.specs.declared.arm.Arm.{Arm}
use Rattle.frz_arena.specs.declared.arm.Next.{Next}
use Rattle.frz_arena.specs.declared.arm.Next.TheVariants.{Inside, Outside}
use Rattle.frz_arena.specs.declared.class.Class.{Class}
use Rattle.frz_arena.specs.declared.class.Class.TheVariants.{Good, Safe, Bad}
use Rattle.frz_exits.specs.Values.{class_of}
use Rattle.frz_game.specs.ExactTables.{is_decided}
use Rattle.frz_premises.specs.declared.sides.ExitValues.{ExitValues}
use Rattle.frz_premises.specs.declared.sides.Strength.{Strength}
use Rattle.frz_premises.specs.declared.sides.Strength.TheVariants.{Believed, Renounced, Undecided, Outcomes, Exact}
use Rattle.frz_premises.specs.WaysOut.{outside_of}

abbrev pub is_bad : Class → Bool
is_bad Good = false
is_bad Safe = false
is_bad Bad = true

-- what these values are: whether each says who wins or that the game is drawn, and whether some is
-- bad for a side
abbrev pub values_tell : List Value → ExitValues
values_tell values = record {
  decided = list_all is_decided values;
  bad_for_white = list_any (λ v. is_bad (class_of v White)) values;
  bad_for_black = list_any (λ v. is_bad (class_of v Black)) values;
}

-- the values of all exits, by number and move, and what they are
abbrev pub values_of : RuleLines → (Board → Value) → List Value
values_of rules value = map value (outside_of rules.groups)

abbrev pub exits_tell : RuleLines → (Board → Value) → ExitValues
exits_tell rules value = values_tell (values_of rules value)

-- some value is bad for the side
abbrev pub bad_for : ExitValues → Colour → Bool
bad_for values White = values.bad_for_white
bad_for values Black = values.bad_for_black

-- what the bounds of a side are in chess: by whether some exit line is believed, whether some line
-- renounces moves of the side, and what the values of the exits are
abbrev pub strength_by : (believes renounces : Bool) → ExitValues → Colour → Strength
strength_by true renounces values side = Believed
strength_by false true values side = Renounced
strength_by false false values side =
    if values.decided then (if bad_for values (other_of side) then Outcomes else Exact)
    else Undecided

-- some line forbids the side a move
abbrev pub renounces : RuleLines → Colour → Bool
renounces rules side = list_any (λ line. same_colour line.colour side) rules.forbids

abbrev pub strength_of : RuleLines → (believed : ℕ) → ExitValues → Colour → Strength
strength_of rules believed values side =
    strength_by (nat_lt 0 believed) (renounces rules side) values side

abbrev pub value_behind : Next ℕ Value → Option Value
value_behind (Inside i) = None
value_behind (Outside v) = Some v

-- the values of those of these moves that lead out of the set
abbrev pub values_after : List (Arm Step ℕ Value) → List Value
values_after arms = filter_map (λ a. value_behind a.next) arms
