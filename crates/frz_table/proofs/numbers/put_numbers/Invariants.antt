use Rattle.std.proofs.Common.{◌≡◌, ◌*◌, take}
use Rattle.frz_table.specs.Numbers.{number_bytes}
use Rattle.frz_table.proofs.numbers.put_numbers.Given as goal

abbrev pub invariant-loop-i : goal.invariant-loop-i
invariant-loop-i l = take (4 * l.i) l.into ≡ number_bytes (take l.i l.numbers)
