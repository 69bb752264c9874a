use Rattle.frz_commands_table.proofs.tallies.write_counts.Goals as goal

pub returns : goal.returns
returns g c =
    let holds = rw c.code.ensures at c.count_code.ensures in
    rw (c.count_wins.ensures, holds, c.count_failures.ensures, c.longest.ensures)
    at c.write_tally.ensures
