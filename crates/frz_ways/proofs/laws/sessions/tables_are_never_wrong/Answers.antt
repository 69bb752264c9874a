use Rattle.frz_arena.proofs.Lemmas.{right_reader}
use Rattle.frz_game.specs.Games.{game_of, arena_by, graph_by}
use Rattle.frz_game.specs.Numbers.{numbers_by}
use Rattle.frz_index.specs.Members.{Num}
use Rattle.frz_ways.specs.Reading.{opened}
use Rattle.frz_ways.specs.Sessions.{session_player}
use Rattle.frz_ways.proofs.laws.sessions.tables_are_never_wrong.Goals as goal

pub returns : goal.returns
returns c = λ rules value side codes table p member input plies at kept given left w.
    right_reader (numbers_by rules.groups) (arena_by rules value)
    (c.numbered.ensures.numbering rules value) (c.numbered.ensures.lawful rules value)
    (c.games_are_closed.ensures.game (game_of rules value)) side codes table
    (session_player (graph_by rules value) side codes).opponent p (Num rules.groups p)
    (c.membership.ensures.number rules.groups p member) (opened input) left plies at kept given
    w
