use Rattle.std.proofs.Common.{◌≡◌, ◌++◌, length}
use Rattle.frz_words.specs.Lines.{lines, numbered}
use Rattle.frz_exit_lines.specs.Numbers.{exit_numbers}
use Rattle.frz_exit_lines.proofs.numbers.exit_line_numbers.Given as goal

abbrev pub invariant-loop-line : goal.invariant-loop-line
invariant-loop-line l =
    l.numbers.items ++ exit_numbers l.lines ≡ exit_numbers (numbered 1 (lines l.fn.text))

abbrev pub decreases-loop-line : goal.decreases-loop-line
decreases-loop-line l = length l.lines
