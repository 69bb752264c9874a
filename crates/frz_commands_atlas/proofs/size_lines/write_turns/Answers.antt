use Rattle.frz_commands_atlas.proofs.size_lines.write_turns.Goals as goal

pub returns : goal.returns
returns g c = rw c.target_count.ensures.count at c.write_numbered_line.ensures
