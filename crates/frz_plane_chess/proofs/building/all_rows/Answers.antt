use Rattle.std.proofs.Common.{None, Option, arith, ℕ}
use Rattle.frz_plane_chess.specs.Rows.{IsRow}
use Rattle.frz_plane_chess.specs.declared.row.Row.{Row}
use Rattle.frz_plane_chess.proofs.Pushed.{pushed}
use Rattle.frz_plane_chess.proofs.building.all_rows.Goals as goal

pub loop-c-preserved : goal.loop-c-preserved
loop-c-preserved g c =
    let r = c.args.configurations.now.rules.now in
    record {
      many = omega (arith, c.in_ok-push.ensures.len);
      rows = pushed
          (λ (d : ℕ) (o : Option Row). IsRow r (g.B.ExitBook.value_at c.args.book.now) d o)
          c.loop-c.rows.items c.push.new.self.items c.in_ok-row.row None c.loop-c.c
          c.in_ok-push.ensures.items c.loop-c.invariant.many c.loop-c.invariant.rows
          c.in_ok-row.ensures;
    }
