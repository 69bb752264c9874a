use Rattle.std.proofs.Common.{◌≡◌, ◌/◌, ◌%◌, ℕ, Option, Some, length}
use Rattle.std.specs.List.{slice_get}
use Rattle.frz_board.specs.Men.{man_of_cell}
use Rattle.frz_board.specs.declared.man.Man.{Man}
use Rattle.frz_index.specs.Shares.{IsShareOf}
use Rattle.frz_index.specs.declared.shares.Share.{Share}
use Rattle.frz_index.proofs.shares.shares_of.Given as goal

abbrev pub invariant-loop-i : goal.invariant-loop-i
invariant-loop-i l = record {
  size : length l.shares.items ≡ l.i;
  each : (k : ℕ) (man : Man) (o : Option Share) → slice_get l.shares.items k ≡ Some o →
      man_of_cell (k / 64) ≡ Some man → IsShareOf l.groups man (k % 64) o;
}
