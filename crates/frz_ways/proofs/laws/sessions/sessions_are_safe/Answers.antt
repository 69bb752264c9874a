use Rattle.frz_arena.proofs.Lemmas.{safe_reader}
use Rattle.frz_game.specs.Games.{game_of, graph_by}
use Rattle.frz_game.specs.Numbers.{numbers_by}
use Rattle.frz_ways.specs.Reading.{opened}
use Rattle.frz_ways.specs.Sessions.{session_player}
use Rattle.frz_ways.proofs.laws.sessions.sessions_are_safe.Goals as goal

pub returns : goal.returns
returns c =
    λ rules value exits side codes table start input plies end left w x in_it p m at_it there.
    safe_reader (game_of rules value) (c.true_values.ensures.exits rules value exits)
    (numbers_by rules.groups) (c.numbered.ensures.numbering rules value) side codes table
    (session_player (graph_by rules value) side codes).opponent (opened input) left (0, start) plies
    end
    w x in_it p m at_it there
