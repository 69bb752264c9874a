use Rattle.std.proofs.Common.{sym, ◌∙◌, ap, subst, length, length-append, ◌+◌}
use Rattle.frz_combinations.specs.Binomials.{AreRows, IsRow}
use Rattle.frz_combinations.proofs.Rows.{rows_none, rows_more}
use Rattle.frz_combinations.proofs.pascal.Triangle.new.Goals as goal

pub loop-init : goal.loop-init
loop-init c =
    record {
      rows = rows_none _ (ap length c.new-rows.ensures.items);
      size = ap length c.new-rows.ensures.items;
      row = c.first_row-row.ensures;
    }

pub loop-preserved : goal.loop-preserved
loop-preserved c = record {
  rows =
      subst AreRows (sym c.in_ok-push.ensures.items)
      (rows_more c.loop.rows.items c.loop.row c.loop.invariant.rows
      (subst (λ n. IsRow n c.loop.row) (sym c.loop.invariant.size) c.loop.invariant.row));
  size =
      ap length c.in_ok-push.ensures.items
      ∙ (length-append c.loop.rows.items _ ∙ ap (λ n. n + 1) c.loop.invariant.size);
  row = c.next_row-row.ensures c.loop.counter c.loop.invariant.row;
}

pub invariant_of-result : goal.invariant_of-result
invariant_of-result c =
    subst AreRows (sym c.in_ok-push-2.ensures.items)
    (rows_more c.loop.rows.items c.loop.row c.loop.invariant.rows
    (subst (λ n. IsRow n c.loop.row) (sym c.loop.invariant.size) c.loop.invariant.row))
