use Rattle.std.proofs.Common.{◌≡◌, ◌≤◌, ◌+◌, ◌++◌, [], map, take}
use Rattle.std.specs.Prelude.{sum_by}
use Rattle.frz_commands_premises.specs.PremiseLines.{behind_lines, text_link_loaded}
use Rattle.frz_commands_premises.proofs.Sizes.{back_size}
use Rattle.frz_commands_premises.proofs.lines.add_behind.Given as goal

-- the lines of the tables before this one were added
abbrev pub invariant-loop-place : goal.invariant-loop-place
invariant-loop-place g l = record {
  added : l.lines.items
      ≡ l.fn.lines.items ++ behind_lines [] (map text_link_loaded (take l.place l.backs));
  steps : l.steps ≤ l.fn.steps + sum_by back_size (take l.place l.backs);
  later : l.fn.steps ≤ l.steps;
}
