use Rattle.std.proofs.Common.{refl, List}
use Rattle.frz_arena.proofs.Lemmas.{counted_lawful, counted_turns}
use Rattle.frz_game.specs.Games.{game_of, graph_by}
use Rattle.frz_game.specs.Numbers.{numbers_by}
use Rattle.frz_ways.specs.declared.end.TheConstants.{LINE_LIMIT}
use Rattle.frz_ways.specs.declared.opponent.Opponent.TheVariants as opponents
use Rattle.frz_ways.specs.Reading.{Input, reads}
use Rattle.frz_ways.specs.Ways.{WayPly, EndOfWay, GoesOn, way_player}
use Rattle.frz_ways.proofs.Alternating.{turn_after}
use Rattle.frz_ways.proofs.Ending.{reads_input}
use Rattle.frz_ways.proofs.laws.ways.one_way.Goals as goal

pub returns-clause-there : goal.returns-clause-there
returns-clause-there c = λ rules value opponent side codes start input.
    let arena = graph_by rules value in
    let lawful = counted_lawful arena (c.numbered.ensures.graph_lawful rules value) in
    let turns = counted_turns arena (c.sides_move_in_turn.ensures.numbers (game_of rules value)
    (λ p m h. turn_after p m ((c.all_listed.ensures p m).0 h).1) (numbers_by rules.groups)
    (c.numbered.ensures.numbering rules value)) in
    elim opponent as (λ o. (plies : List WayPly) × (end : EndOfWay) × (left : Input)
    × GoesOn arena o side codes 0 input start plies end left) [
      | opponents.Codes ↦ (
          let w = c.lines_end.ensures (way_player arena opponents.Codes side codes) LINE_LIMIT refl
          lawful input (0, start) in
          (w.0, w.1, input, w.2))
      | opponents.Input ↦ c.sessions_end.ensures (way_player arena opponents.Input side codes)
          (λ p s. reads (arena.arms p.1) s.more s.left) refl lawful turns (λ s. s.more)
          (reads_input arena) input (0, start)
    ]
