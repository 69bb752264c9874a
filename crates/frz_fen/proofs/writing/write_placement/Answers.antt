use Rattle.std.proofs.Common.{◌≡◌, ◌+◌, ◌-◌, ◌*◌, ◌∙◌, ◌∷◌, [], ◌++◌, take, drop, ap, sym, subst, arith, ℕ, ◌<◌}
use Rattle.std.specs.List.{All}
use Rattle.std.proofs.lemmas.List.Elements.{All-take}
use Rattle.frz_fen.specs.Writing.{ranks_text, placement_text}
use Rattle.frz_fen.proofs.WholeTexts.{placement_step, placement_last}
use Rattle.frz_fen.proofs.writing.write_placement.Goals as goal

pub loop-rank-preserved : goal.loop-rank-preserved
loop-rank-preserved c =
    let eight : 8 * c.loop-rank.rank + 8 - 8 * c.loop-rank.rank ≡ 8 = omega arith in
    record {
      few = omega arith;
      written =
          placement_step (ranks_text c.cells-cells.result 7) c.loop-rank.text.bytes
          c.cells-cells.result
          (take (8 * c.loop-rank.rank + 8 - 8 * c.loop-rank.rank)
          (drop (8 * c.loop-rank.rank) c.cells-cells.result))
          c.push.new.text.bytes c.loop-rank.rank c.loop-rank-test.true c.loop-rank.invariant.written
          (ap (λ n. take n (drop (8 * c.loop-rank.rank) c.cells-cells.result)) eight)
          (c.push.ensures.text ∙ ap (λ xs. xs ++ 47 ∷ []) c.write_rank.ensures.text);
      short = omega arith;
    }

pub write_rank-requires-2-clause-fits : goal.write_rank-requires-2-clause-fits
write_rank-requires-2-clause-fits c =
    All-take (λ (x : ℕ). x < 13) 8 c.cells-cells.result
    (subst (All (λ (x : ℕ). x < 13)) (sym c.cells-cells.ensures.cells)
    c.cells-cells.ensures.fits.men)

pub returns-clause-text : goal.returns-clause-text
returns-clause-text c =
    let last : c.loop-rank.rank ≡ 0 = omega arith in
    placement_last (ranks_text c.cells-cells.result 7) c.loop-rank.text.bytes c.cells-cells.result
    c.write_rank-2.new.text.bytes
    (ap (λ n. c.loop-rank.text.bytes ++ ranks_text c.cells-cells.result n) (sym last)
    ∙ c.loop-rank.invariant.written)
    c.write_rank-2.ensures.text
    ∙ ap placement_text c.cells-cells.ensures.cells
