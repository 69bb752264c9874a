use Rattle.std.proofs.Common.{List, subst}
use Rattle.frz_commands_atlas.specs.declared.first_exits.FirstExit.{FirstExit}
use Rattle.frz_commands_atlas.specs.FirstExits.{rarity}
use Rattle.frz_commands_atlas.specs.Ranked.{IsRanked}
use Rattle.frz_commands_atlas.proofs.first_exits.ranked_exits.Goals as goal

pub returns : goal.returns
returns c = λ exits kept.
    subst (λ (l : List FirstExit). IsRanked rarity l c.rank_exits.new.rows.items)
    (c.in_ok-rows.ensures exits kept) c.in_ok-rank_exits.ensures
