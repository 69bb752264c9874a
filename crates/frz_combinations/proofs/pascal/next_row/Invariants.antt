use Rattle.std.proofs.Common.{◌≡◌, ◌<◌, ℕ, length, get_or}
use Rattle.frz_combinations.proofs.Rows.{number_below}
use Rattle.frz_combinations.proofs.pascal.next_row.Given as goal

abbrev pub invariant-loop-k : goal.invariant-loop-k
invariant-loop-k l =
    record {
      size : length l.next ≡ 17;
      numbers : (i : ℕ) → i < l.k
          → get_or l.next i 0 ≡ number_below l.row i;
    }
