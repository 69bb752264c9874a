use Rattle.std.proofs.Common.{◌≡◌, ◌++◌, List, take}
use Rattle.frz_sets.specs.declared.exit.Value.{Value}
use Rattle.frz_premises.specs.Sides.{values_after, values_tell}
use Rattle.frz_premises.proofs.sides.ExitValues.with_all.Given as goal

-- the moves before this one are told
abbrev pub invariant-loop-arm : goal.invariant-loop-arm
invariant-loop-arm l =
    (values : List Value) → l.fn.self ≡ values_tell values →
    l.told ≡ values_tell (values ++ values_after (take l.arm-index l.arms))
