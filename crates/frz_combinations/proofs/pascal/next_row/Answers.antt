use Rattle.std.proofs.Common.{◌<◌, ◌≢◌, length, arith, get_or-set_other, get_or-set_same, below_more, ◌∙◌, refl}
use Rattle.std.proofs.Math.ListN.{length-set}
use Rattle.frz_combinations.proofs.Rows.{number_below_at, numbers_first, row_next}
use Rattle.frz_combinations.proofs.pascal.next_row.Goals as goal

pub loop-k-init : goal.loop-k-init
loop-k-init c = record { size = refl; numbers = numbers_first c.args.row.now }

pub loop-k-preserved : goal.loop-k-preserved
loop-k-preserved c = record {
  size = simp length-set c.loop-k.invariant.size;
  numbers =
      below_more _ _
      (λ i h. let ne : i ≢ c.loop-k.k = omega arith in
      rw get_or-set_other (c.loop-k.invariant.numbers i h))
      (let lt : c.loop-k.k < length c.loop-k.next = omega arith in
      rw get_or-set_same
      (c.saturating_add.ensures ∙ number_below_at c.args.row.now c.loop-k.k (omega arith)));
}

pub returns : goal.returns
returns c =
    row_next c.args.row.now c.loop-k.next c.loop-k.invariant.size
    (λ k h. c.loop-k.invariant.numbers k (omega arith))
