use Rattle.std.proofs.Common.{◌≡◌, ◌+◌, ◌&&◌, ◌∙◌, List, ap, drop, sym, true, false}
use Rattle.frz_board.specs.Boards.{Board}
use Rattle.frz_sets.specs.Views.{GroupLine}
use Rattle.frz_index.specs.FixedMen.{are_fixed_free, is_free_if_fixed, put_fixed, put_if_fixed}
use Rattle.frz_index.proofs.GroupSteps.{drop_read}
use Rattle.frz_index.proofs.fixed.put_fixed.Goals as goal

pub loop-i-preserved : goal.loop-i-preserved
loop-i-preserved c =
    let gs = c.args.groups.now in
    let g = c.index-groups-i.result in
    let cells = c.loop-i.p.cells in
    let later = drop (c.loop-i.i + 1) gs in
    let is = drop_read gs c.loop-i.i g c.loop-i-test.true c.index-groups-i.is in
    let free : is_free_if_fixed g cells ≡ true =
    sym c.put_if_fixed.ensures.free ∙ c.if-not-put_if_fixed.false in
    let new = c.put_if_fixed.ensures.put c.if-not-put_if_fixed.false in
    record {
      put =
          ap (λ (b : Board). record b { cells = put_fixed later b.cells }) new
          ∙ ap (λ (xs : List GroupLine). record c.loop-i.p { cells = put_fixed xs cells }) (sym is)
          ∙ c.loop-i.invariant.put;
      free =
          ap (λ (b : Board). are_fixed_free later b.cells) new
          ∙ ap (λ b. b && are_fixed_free later (put_if_fixed g cells)) (sym free)
          ∙ ap (λ (xs : List GroupLine). are_fixed_free xs cells) (sym is)
          ∙ c.loop-i.invariant.free;
    }

pub returns-then-not-put_if_fixed-clause-free : goal.returns-then-not-put_if_fixed-clause-free
returns-then-not-put_if_fixed-clause-free c =
    let gs = c.args.groups.now in
    let g = c.index-groups-i.result in
    let cells = c.loop-i.p.cells in
    let later = drop (c.loop-i.i + 1) gs in
    let is = drop_read gs c.loop-i.i g c.loop-i-test.true c.index-groups-i.is in
    let none : is_free_if_fixed g cells ≡ false =
    sym c.put_if_fixed.ensures.free ∙ c.if-not-put_if_fixed.true in
    sym (ap (λ b. b && are_fixed_free later (put_if_fixed g cells)) none)
    ∙ ap (λ (xs : List GroupLine). are_fixed_free xs cells) (sym is)
    ∙ c.loop-i.invariant.free
