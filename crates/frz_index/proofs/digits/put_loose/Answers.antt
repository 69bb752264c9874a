use Rattle.std.proofs.Common.{◌≡◌, ◌+◌, ◌/◌, ◌%◌, ◌∙◌, List, ap, drop, map, slice_index, sym, true, ℕ}
use Rattle.frz_board.specs.Boards.{Board}
use Rattle.frz_combinations.specs.MixedRadix.{digits}
use Rattle.frz_sets.specs.Sets.{radix_of}
use Rattle.frz_index.specs.FixedMen.{are_loose_free, is_free_if_loose, put_if_loose, put_loose}
use Rattle.frz_index.proofs.GroupSteps.{at_read, free_step, free_stop, put_step}
use Rattle.frz_index.proofs.digits.put_loose.Goals as goal

pub put_if_loose-requires-clause-some : goal.put_if_loose-requires-clause-some
put_if_loose-requires-clause-some c =
    (at_read c.args.groups.now c.args.weights.now c.loop-i.i c.index-groups-i.result
    c.requires.numberable c.requires.weights c.loop-i-test.true c.index-groups-i.is).some

pub left_over-rest-requires : goal.left_over-rest-requires
left_over-rest-requires c =
    (at_read c.args.groups.now c.args.weights.now c.loop-i.i c.index-groups-i.result
    c.requires.numberable c.requires.weights c.loop-i-test.true c.index-groups-i.is).some

pub loop-i-preserved : goal.loop-i-preserved
loop-i-preserved c =
    let gs = c.args.groups.now in
    let g = c.index-groups-i.result in
    let w = slice_index c.args.weights.now c.loop-i.i in
    let cells = c.loop-i.p.cells in
    let later = drop (c.loop-i.i + 1) gs in
    let a = at_read gs c.args.weights.now c.loop-i.i g c.requires.numberable c.requires.weights
    c.loop-i-test.true c.index-groups-i.is in
    let r : c.left_over-rest.result ≡ c.loop-i.rest % w = c.left_over-rest.ensures in
    let free : is_free_if_loose g (c.loop-i.rest / w) cells ≡ true =
    sym c.put_if_loose.ensures.free ∙ c.if-not-put_if_loose.false in
    let new = c.put_if_loose.ensures.put c.if-not-put_if_loose.false in
    record {
      put =
          ap (λ (b : Board). record b {
            cells = put_loose later (digits (map radix_of later) c.left_over-rest.result) b.cells;
          }) new
          ∙ ap (λ (xs : List ℕ). record c.loop-i.p { cells = xs })
          (ap (λ n. put_loose later (digits (map radix_of later) n)
          (put_if_loose g (c.loop-i.rest / w) cells)) r
          ∙ put_step gs c.loop-i.i g w c.loop-i.rest cells a)
          ∙ c.loop-i.invariant.put;
      free =
          ap (λ (b : Board). are_loose_free later
          (digits (map radix_of later) c.left_over-rest.result) b.cells) new
          ∙ ap (λ n. are_loose_free later (digits (map radix_of later) n)
          (put_if_loose g (c.loop-i.rest / w) cells)) r
          ∙ free_step gs c.loop-i.i g w c.loop-i.rest cells a free
          ∙ c.loop-i.invariant.free;
    }

pub returns-then-not-put_if_loose-clause-free : goal.returns-then-not-put_if_loose-clause-free
returns-then-not-put_if_loose-clause-free c =
    let gs = c.args.groups.now in
    let g = c.index-groups-i.result in
    let w = slice_index c.args.weights.now c.loop-i.i in
    let a = at_read gs c.args.weights.now c.loop-i.i g c.requires.numberable c.requires.weights
    c.loop-i-test.true c.index-groups-i.is in
    free_stop gs c.loop-i.i g w c.loop-i.rest c.loop-i.p.cells a
    (sym c.put_if_loose.ensures.free ∙ c.if-not-put_if_loose.true)
    ∙ c.loop-i.invariant.free
