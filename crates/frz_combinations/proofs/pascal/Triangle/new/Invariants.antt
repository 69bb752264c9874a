use Rattle.std.proofs.Common.{◌≡◌, length}
use Rattle.frz_combinations.specs.Binomials.{AreRows, IsRow}
use Rattle.frz_combinations.proofs.pascal.Triangle.new.Given as goal

abbrev pub invariant-loop : goal.invariant-loop
invariant-loop l =
    record {
      rows : AreRows l.rows.items;
      size : length l.rows.items ≡ l.counter;
      row : IsRow l.counter l.row;
    }
