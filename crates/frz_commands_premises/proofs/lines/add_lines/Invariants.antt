use Rattle.std.proofs.Common.{◌≡◌, ◌++◌, take}
use Rattle.frz_commands_premises.specs.PremiseLines.{lines_by}
use Rattle.frz_commands_premises.proofs.lines.add_lines.Given as goal

-- the lines before this one were added
abbrev pub invariant-loop-i : goal.invariant-loop-i
invariant-loop-i l = l.lines.items ≡ l.fn.lines.items ++ take l.i (lines_by l.numbers l.bases)
