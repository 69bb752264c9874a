use Rattle.std.proofs.Common.{◌≡◌, ℕ, ◌+◌, ◌*◌, ◌<◌, arith, sym, ap, ◌∙◌}
use Rattle.std.proofs.lemmas.Bool.{both_ways}
use Rattle.frz_squares.specs.SquareSets.{has_square, set_of}
use Rattle.frz_board.specs.declared.man.Colour.{Colour}
use Rattle.frz_board.specs.Boards.{Board, holds}
use Rattle.frz_board.specs.Men.{other_of}
use Rattle.frz_bits.specs.Words.{IsNext, HasNoneFrom}
use Rattle.frz_bits.proofs.Lemmas.{in_side}
use Rattle.frz_unmove.specs.Gathering.{Comes}
use Rattle.frz_unmove.proofs.Coming.{held}
use Rattle.frz_unmove.proofs.Movers.{movers_below, movers_few, movers_next}
use Rattle.frz_unmove.proofs.Adding.{Below, adds_room, walk_next, walk_end}
use Rattle.frz_unmove.proofs.gathering.add_all.Goals as goal

-- the word of the side that has moved
in_men : (q : Board) (men : ℕ) (c d : Colour) → men ≡ set_of (λ s. holds q c s) → c ≡ other_of d →
    d ≡ q.turn → (k : ℕ) → k < 64 → has_square men k ≡ holds q (other_of q.turn) k
in_men q men c d e ec ed k l = in_side q c men k e l ∙ ap (λ x. holds q x k) (ec ∙ ap other_of ed)

pub add_square-requires-clause-own : goal.add_square-requires-clause-own
add_square-requires-clause-own c =
    let q = c.args.q.now in
    let next : IsNext c.side-men.result c.loop-to.n c.in-Some.to = c.in-Some.ensures in
    sym (in_men q c.side-men.result c.other.result c.turn.result c.side-men.ensures
    c.other.ensures.other c.turn.ensures c.in-Some.to next.on_board)
    ∙ next.there

pub add_square-requires-clause-room : goal.add_square-requires-clause-room
add_square-requires-clause-room c =
    let q = c.args.q.now in
    let next : IsNext c.side-men.result c.loop-to.n c.in-Some.to = c.in-Some.ensures in
    let own = sym (in_men q c.side-men.result c.other.result c.turn.result c.side-men.ensures
    c.other.ensures.other c.turn.ensures c.in-Some.to next.on_board) ∙ next.there in
    let one_more = movers_next q c.loop-to.n c.in-Some.to c.requires.valid.fits.size next.from
    next.on_board own in
    let few = movers_few q (c.in-Some.to + 1) c.requires.valid in
    let room = c.requires.room in
    let more = adds_room (Below (Comes c.args.set.now q) (λ x. x.mv.to) c.loop-to.n) c.args.out.now
    c.loop-to.out (6912 * movers_below q c.loop-to.n) c.loop-to.invariant.1 in
    omega (arith, one_more, few, room, more)

pub loop-to-preserved : goal.loop-to-preserved
loop-to-preserved c =
    let q = c.args.q.now in
    let next : IsNext c.side-men.result c.loop-to.n c.in-Some.to = c.in-Some.ensures in
    let inside = in_men q c.side-men.result c.other.result c.turn.result c.side-men.ensures
    c.other.ensures.other c.turn.ensures in
    let own = sym (inside c.in-Some.to next.on_board) ∙ next.there in
    let on = next.on_board in
    let e = c.number-n.ensures.number in
    let one_more = movers_next q c.loop-to.n c.in-Some.to c.requires.valid.fits.size next.from
    next.on_board own in
    let same = ap (λ n. movers_below q (n + 1)) e in (
      omega (arith, on, e),
      walk_next (Comes c.args.set.now q) (λ x. x.mv.to) c.args.out.now c.loop-to.out
          c.add_square.new.out
          c.loop-to.n c.in-Some.to (c.number-n.result + 1) (6912 * movers_below q c.loop-to.n) 6912
          (6912 * movers_below q (c.number-n.result + 1)) c.loop-to.invariant.1 c.add_square.ensures
          (omega (arith, one_more, same)) next.from (omega (arith, e))
          (λ x h l m. both_ways (has_square c.side-men.result x.mv.to) (next.first x.mv.to l m)
          (inside x.mv.to h.step.to ∙ held c.args.set.now q x h)),
    )

pub returns : goal.returns
returns c =
    let q = c.args.q.now in
    let none : HasNoneFrom c.side-men.result c.loop-to.n = c.in_default.ensures in
    let inside = in_men q c.side-men.result c.other.result c.turn.result c.side-men.ensures
    c.other.ensures.other c.turn.ensures in
    let few = movers_few q c.loop-to.n c.requires.valid in
    walk_end (Comes c.args.set.now q) (λ x. x.mv.to) c.args.out.now c.loop-to.out c.loop-to.n
    (6912 * movers_below q c.loop-to.n) 110592 c.loop-to.invariant.1 (omega (arith, few))
    (λ x h l. both_ways (has_square c.side-men.result x.mv.to) (none.none x.mv.to l h.step.to)
    (inside x.mv.to h.step.to ∙ held c.args.set.now q x h))
