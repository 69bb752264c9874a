use Rattle.std.proofs.Common.{rules}
use Rattle.std.proofs.lemmas.Fn.{always_returns_same}
use Rattle.std.proofs.lemmas.List.Sorted.{IsNonDecreasingBy-from_sort_by_key}
use Rattle.frz_commands_atlas.specs.Ranked.{rank_for}
use Rattle.frz_commands_atlas.proofs.ranking.rank_rows.Goals as goal

pub returns-in-Ok : goal.returns-in-Ok
returns-in-Ok c = record {
  same = c.sort_by_key.ensures.permutation;
  rising = IsNonDecreasingBy-from_sort_by_key (rank_for c.args.mover) _ c.in-Ok.ensures.sorted
      (λ a r q k. search rules);
  level = c.sort_by_key.ensures.stable (rank_for c.args.mover)
      (always_returns_same _ _ _ (λ a r q k. search rules));
}
