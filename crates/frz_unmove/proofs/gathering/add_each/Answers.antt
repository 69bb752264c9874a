use Rattle.std.proofs.Common.{◌+◌, ◌-◌, ◌*◌, arith, inl, inr}
use Rattle.std.proofs.lemmas.Bool.{both_ways}
use Rattle.frz_squares.specs.SquareSets.{has_square}
use Rattle.frz_bits.specs.Words.{IsNext, HasNoneFrom}
use Rattle.frz_unmove.specs.Gathering.{ComesTaking, first_target, target_key, target_of}
use Rattle.frz_unmove.proofs.EarlierTargets.{key_in_word, target_of_word}
use Rattle.frz_unmove.proofs.Adding.{Below, adds_room, walk_first, walk_next, walk_end}
use Rattle.frz_unmove.proofs.gathering.add_each.Goals as goal

pub add_at-requires-in-Some-clause-room : goal.add_at-requires-in-Some-clause-room
add_at-requires-in-Some-clause-room c =
    let arrival = c.args.end.now in
    let gs = c.args.set.now in
    let q = c.args.q.now in
    let next : IsNext c.args.targets c.loop-t.n c.in-Some.t = c.in-Some.ensures in
    let place = target_of_word gs q arrival.to c.args.targets c.in-Some.t c.requires.targets
    next.on_board next.there in
    let low = place.0 in
    let high = place.1 in
    let from = next.from in
    let room = c.requires.room in
    let more = adds_room
    (Below (ComesTaking gs q arrival.to arrival.promo c.args.end.now.taken)
    (λ x. target_key (target_of gs x)) (c.loop-t.n + 1)) c.args.out.now c.loop-t.out
    (64 * (1 + (c.loop-t.n - first_target q.turn))) c.loop-t.invariant.added in
    omega (arith, room, low, high, from, more)

pub loop-t-init : goal.loop-t-init
loop-t-init c =
    let arrival = c.args.end.now in
    let gs = c.args.set.now in
    let q = c.args.q.now in
    record {
      low = omega arith;
      rank = omega arith;
      added = walk_first (ComesTaking gs q arrival.to arrival.promo c.args.end.now.taken)
          (λ x. target_key (target_of gs x)) c.args.out.now c.add_at.new.out 0 (0 + 1) 64
          (64 * (1 + (0 - first_target q.turn))) c.add_at.ensures (omega arith) (omega arith)
          (λ x h. elim (key_in_word gs q arrival.to c.args.targets x h.0.0 c.requires.targets) [
            | inl e ↦ inl e
            | inr r ↦ inr (let low = r.0 in omega (arith, low))
          ]);
    }

pub loop-t-preserved : goal.loop-t-preserved
loop-t-preserved c =
    let arrival = c.args.end.now in
    let gs = c.args.set.now in
    let q = c.args.q.now in
    let n = c.loop-t.n in
    let t = c.in-Some.t in
    let next : IsNext c.args.targets n t = c.in-Some.ensures in
    let place = target_of_word gs q arrival.to c.args.targets t c.requires.targets next.on_board
    next.there in
    let low = place.0 in
    let high = place.1 in
    let on = next.on_board in
    let from = next.from in
    let e = c.number-n.ensures.number in
    record {
      low = omega (arith, on, e);
      rank = omega (arith, high, e);
      added = walk_next (ComesTaking gs q arrival.to arrival.promo c.args.end.now.taken)
          (λ x. target_key (target_of gs x)) c.args.out.now c.loop-t.out c.add_at-in-Some.new.out
          (n + 1) (t + 1) (c.number-n.result + 1 + 1) (64 * (1 + (n - first_target q.turn))) 64
          (64 * (1 + ((c.number-n.result + 1) - first_target q.turn))) c.loop-t.invariant.added
          c.add_at-in-Some.ensures
          (omega (arith, low, from, e)) (omega (arith, from)) (omega (arith, e))
          (λ x h l m. elim (key_in_word gs q arrival.to c.args.targets x h.0.0 c.requires.targets) [
            | inl k ↦ omega (arith, k, l)
            | inr r ↦ both_ways (has_square c.args.targets (target_key (target_of gs x) - 1))
                (next.first (target_key (target_of gs x) - 1) (omega (arith, l))
                (let above = r.0 in omega (arith, m, above))) r.2
          ]);
    }

pub returns : goal.returns
returns c =
    let arrival = c.args.end.now in
    let gs = c.args.set.now in
    let q = c.args.q.now in
    let none : HasNoneFrom c.args.targets c.loop-t.n = c.in_default.ensures in
    let rank = c.loop-t.invariant.rank in
    walk_end (ComesTaking gs q arrival.to arrival.promo c.args.end.now.taken)
    (λ x. target_key (target_of gs x)) c.args.out.now c.loop-t.out (c.loop-t.n + 1)
    (64 * (1 + (c.loop-t.n - first_target q.turn))) 576 c.loop-t.invariant.added
    (omega (arith, rank))
    (λ x h l. elim (key_in_word gs q arrival.to c.args.targets x h.0.0 c.requires.targets) [
      | inl k ↦ omega (arith, k, l)
      | inr r ↦ both_ways (has_square c.args.targets (target_key (target_of gs x) - 1))
          (none.none (target_key (target_of gs x) - 1) (omega (arith, l))
          (let above = r.0 in let below = r.1 in omega (arith, above, below))) r.2
    ])
