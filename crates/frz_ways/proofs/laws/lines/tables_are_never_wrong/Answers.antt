use Rattle.frz_arena.proofs.Lemmas.{right_reader}
use Rattle.frz_arena.specs.Ways.{ByCodes}
use Rattle.frz_game.specs.Games.{game_of, arena_by}
use Rattle.frz_game.specs.Numbers.{numbers_by}
use Rattle.frz_index.specs.Members.{Num}
use Rattle.frz_ways.specs.declared.end.TheConstants.{LINE_LIMIT}
use Rattle.frz_ways.proofs.laws.lines.tables_are_never_wrong.Goals as goal

pub returns : goal.returns
returns c = λ rules value side codes tables p member plies at kept given w.
    right_reader (numbers_by rules.groups) (arena_by rules value)
    (c.numbered.ensures.numbering rules value) (c.numbered.ensures.lawful rules value)
    (c.games_are_closed.ensures.game (game_of rules value)) side codes tables (ByCodes LINE_LIMIT) p
    (Num rules.groups p)
    (c.membership.ensures.number rules.groups p member) tt tt plies at kept given w
