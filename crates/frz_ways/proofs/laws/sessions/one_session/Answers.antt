use Rattle.std.proofs.Common.{refl}
use Rattle.frz_arena.proofs.Lemmas.{counted_lawful, counted_turns}
use Rattle.frz_game.specs.Games.{game_of, graph_by}
use Rattle.frz_game.specs.Numbers.{numbers_by}
use Rattle.frz_ways.specs.Reading.{opened, reads}
use Rattle.frz_ways.specs.Sessions.{session_player}
use Rattle.frz_ways.proofs.Alternating.{turn_after}
use Rattle.frz_ways.proofs.Ending.{reads_input}
use Rattle.frz_ways.proofs.laws.sessions.one_session.Goals as goal

pub returns-clause-there : goal.returns-clause-there
returns-clause-there c = λ rules value side codes start input.
    let arena = graph_by rules value in
    c.sessions_end.ensures (session_player arena side codes)
    (λ p input. reads (arena.arms p.1) input.more input.left) refl
    (counted_lawful arena (c.numbered.ensures.graph_lawful rules value))
    (counted_turns arena (c.sides_move_in_turn.ensures.numbers (game_of rules value)
    (λ p m h. turn_after p m ((c.all_listed.ensures p m).0 h).1) (numbers_by rules.groups)
    (c.numbered.ensures.numbering rules value)))
    (λ input. input.more) (reads_input arena) (opened input) (0, start)
