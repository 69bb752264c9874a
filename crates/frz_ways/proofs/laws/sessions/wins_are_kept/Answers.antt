use Rattle.frz_game.specs.Games.{graph_by}
use Rattle.frz_ways.specs.Reading.{opened}
use Rattle.frz_ways.specs.Sessions.{session_player}
use Rattle.frz_ways.proofs.laws.sessions.wins_are_kept.Goals as goal

pub returns-clause-few : goal.returns-clause-few
returns-clause-few c = λ rules value side codes start n input plies end left e w.
    c.wins_are_kept.ensures.few (session_player (graph_by rules value) side codes) (opened input)
    left (0, start) plies end n e w

pub returns-clause-won : goal.returns-clause-won
returns-clause-won c = λ rules value side codes start n input plies end left e w.
    c.wins_are_kept.ensures.ends (session_player (graph_by rules value) side codes) (opened input)
    left (0, start) plies end n e w

pub returns-clause-exit : goal.returns-clause-exit
returns-clause-exit c = λ rules value side codes start n input plies v left e w.
    c.wins_are_kept.ensures.exit (session_player (graph_by rules value) side codes) (opened input)
    left (0, start) plies v n e w
