use Rattle.frz_game.specs.Games.{game_of}
use Rattle.frz_journeys.proofs.NeverWrong.{right_at_last}
use Rattle.frz_journeys.proofs.laws.exact_tables_are_never_wrong.Goals as goal

pub returns : goal.returns
returns c = λ opponent side before table place start input stages left exact member j.
    right_at_last c.numbered.ensures.numbering c.numbered.ensures.lawful
    (λ rules value. c.games_are_closed.ensures.game (game_of rules value))
    c.membership.ensures.number opponent side before table place start input stages left exact member
    j
