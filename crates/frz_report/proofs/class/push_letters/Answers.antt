use Rattle.std.proofs.Common.{◌<◌, ◌+◌, length, arith}
use Rattle.frz_report.proofs.Classing.{below_few, below_more, front_has_no_more, one_cell_more}
use Rattle.frz_report.proofs.class.push_letters.Goals as goal

pub push_if-requires-clause-room : goal.push_if-requires-clause-room
push_if-requires-clause-room c =
    let cells = c.args.cells.now in
    let i = c.loop-standing.standing-index in
    let within : i < length cells = omega arith in
    let one = one_cell_more c.args.cell cells i within in
    let front = front_has_no_more c.args.cell cells (i + 1) in
    let both = below_more c.args.cell cells in
    let most = below_few (c.args.cell + 1) cells in
    omega arith

pub returns-clause-few : goal.returns-clause-few
returns-clause-few c =
    let front = front_has_no_more c.args.cell c.args.cells.now c.loop-standing.standing-index in
    let both = below_more c.args.cell c.args.cells.now in
    omega arith
