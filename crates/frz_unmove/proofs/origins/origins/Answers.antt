use Rattle.std.proofs.Common.{◌∙◌, ◌&&◌, ap}
use Rattle.frz_squares.specs.SquareSets.{has_square}
use Rattle.frz_index.specs.Room.{has_room}
use Rattle.frz_unmove.proofs.Begins.{in_room, in_known}
use Rattle.frz_unmove.proofs.origins.origins.Goals as goal

pub returns-then-is_some : goal.returns-then-is_some
returns-then-is_some c x h =
    let gs = c.args.set.now in
    let ways = c.ways_back-ways.result in
    in_room gs c.args.q.now c.args.to c.args.promo x h c.args.man ways c.with_room.result
    c.requires.valid.fits.size c.requires.mover c.ways_back-ways.ensures
    (λ a low. c.with_room.ensures a low
    ∙ ap (λ b. has_square ways a && has_room gs b c.args.man a) c.put.ensures)

pub returns-else-is_some : goal.returns-else-is_some
returns-else-is_some c x h =
    in_known c.args.set.now c.args.q.now c.args.to c.args.promo x h c.args.man
    c.ways_back-ways.result c.with_known.result c.requires.mover c.ways_back-ways.ensures
    c.with_known.ensures
