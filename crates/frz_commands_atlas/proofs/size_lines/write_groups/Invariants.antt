use Rattle.frz_store.specs.Told.{sink_of}
use Rattle.frz_commands_atlas.proofs.GroupLines.{HasListed}
use Rattle.frz_commands_atlas.proofs.size_lines.write_groups.Given as goal

abbrev pub invariant-loop-i : goal.invariant-loop-i
invariant-loop-i g l = HasListed l.groups l.i (sink_of g.O.Sink l.fn.out) (sink_of g.O.Sink l.out)
