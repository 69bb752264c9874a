use Rattle.std.proofs.Common.{take}
use Rattle.std.specs.Prelude.{flat_map}
use Rattle.frz_store.specs.Told.{sink_of}
use Rattle.frz_answer.specs.Texts.{TookText}
use Rattle.frz_commands_atlas.specs.FirstExits.{first_line}
use Rattle.frz_commands_atlas.proofs.first_exits.write_firsts.Given as goal

abbrev pub invariant-loop-row : goal.invariant-loop-row
invariant-loop-row g l = TookText (flat_map first_line (take l.row-index l.rows))
    (sink_of g.O.Sink l.fn.out) (sink_of g.O.Sink l.out)
