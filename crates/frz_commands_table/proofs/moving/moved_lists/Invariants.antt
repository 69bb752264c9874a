use Rattle.std.proofs.Common.{◌≡◌, ◌<◌, ℕ, length, slice_index_or}
use Rattle.frz_index.specs.Membership.{position_at}
use Rattle.frz_commands_table.specs.Migrated.{moved_code}
use Rattle.frz_commands_table.proofs.moving.moved_lists.Given as goal

abbrev pub invariant-loop-i : goal.invariant-loop-i
invariant-loop-i l = record {
  white_many : length l.white.items ≡ l.i;
  white_moved : (k : ℕ) → k < l.i → slice_index_or l.white.items k 0 ≡ moved_code l.rules.groups
      l.old.white.now (position_at l.rules.groups k);
  black_many : length l.black.items ≡ l.i;
  black_moved : (k : ℕ) → k < l.i → slice_index_or l.black.items k 0 ≡ moved_code l.rules.groups
      l.old.black.now (position_at l.rules.groups k);
}
