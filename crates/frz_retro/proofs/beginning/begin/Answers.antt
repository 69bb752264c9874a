use Rattle.std.proofs.Common.{arith}
use Rattle.frz_retro.proofs.Begins.{begins_noted, has_room}
use Rattle.frz_retro.proofs.BegunNotes.{greatest_next, later_small}
use Rattle.frz_retro.proofs.beginning.begin.Goals as goal

pub begin-requires-clause-room : goal.begin-requires-clause-room
begin-requires-clause-room g c = has_room c.args.i c.requires.begun c.requires.inside

pub returns-clause-begun : goal.returns-clause-begun
returns-clause-begun g c =
    rw (c.begin.ensures, c.entry.ensures, c.later-later.ensures)
    (begins_noted c.args.i c.requires.begun c.requires.inside c.args.note.count c.args.note.code
    c.requires.noted)

pub returns-clause-greatest : goal.returns-clause-greatest
returns-clause-greatest g c =
    let size = c.requires.begun.sized.later in
    let inside = c.requires.inside in
    let small = c.requires.noted.short in
    let read = later_small c.args.note.code in
    let is = c.later-later.ensures in
    let max = c.max.ensures in
    let from = c.from.ensures in
    rw c.begin.ensures
    (greatest_next c.args.tally.now.later c.args.i c.args.last c.max.result c.later-later.result
    (omega (arith, size, inside)) (omega (arith, max, from)) (omega (arith, is, read, small))
    c.requires.greatest)
