use Rattle.std.proofs.Common.{rules}
use Rattle.std.proofs.lemmas.Fn.{always_returns_same}
use Rattle.std.proofs.lemmas.List.Sorted.{IsNonDecreasingBy-from_sort_by_key}
use Rattle.frz_commands_atlas.specs.FirstExits.{rarity}
use Rattle.frz_commands_atlas.proofs.first_exits.rank_exits.Goals as goal

pub returns-in-Ok : goal.returns-in-Ok
returns-in-Ok c = record {
  same = c.sort_by_key.ensures.permutation;
  rising = IsNonDecreasingBy-from_sort_by_key rarity _ c.in-Ok.ensures.sorted
      (λ a r q k. search rules);
  level = c.sort_by_key.ensures.stable rarity
      (always_returns_same _ _ _ (λ a r q k. search rules));
}
