use Rattle.frz_commands_verdict.proofs.command.end_own.Goals as goal

pub returns-in-Wrong : goal.returns-in-Wrong
returns-in-Wrong g c = rw c.in-Wrong.is (c.said.ensures _ _ _ c.write_wrong.ensures)
