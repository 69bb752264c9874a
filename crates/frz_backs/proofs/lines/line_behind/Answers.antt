use Rattle.std.proofs.Common.{◌+◌, ◌-◌, drop, length, take, arith}
use Rattle.std.proofs.lemmas.List.{length-take}
use Rattle.frz_backs.proofs.DecidingLines.{place_below}
use Rattle.frz_backs.proofs.lines.line_behind.Goals as goal

pub overflow_add-result-2 : goal.overflow_add-result-2
overflow_add-result-2 c =
    let lines = c.args.lines.now in
    let end = c.in_ok-end.end in
    let few = c.requires.few in
    let below = c.in_ok-end.ensures.below in
    let many = length lines - (end + 1) in
    let low = place_below (take many (drop (end + 1) lines)) c.args.q.now c.in_ok-place.place
    c.in_ok-place.ensures in
    let cut = length-take many (drop (end + 1) lines) in
    omega (arith, few, below, low, cut)
