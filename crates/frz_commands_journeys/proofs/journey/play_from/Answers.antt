use Rattle.std.proofs.Common.{◌≡◌, ◌∙◌, ap, sym, subst, false, Result}
use Rattle.std.specs.Prelude.{map}
use Rattle.std.specs.String.{string_bytes}
use Rattle.frz_board.specs.Boards.{Board}
use Rattle.frz_fen.specs.Reading.{fen_of}
use Rattle.frz_fen.specs.declared.fault.FenFault.{FenFault}
use Rattle.frz_prelude.specs.Positions.{on_position}
use Rattle.frz_prelude.proofs.Lemmas.{as_read}
use Rattle.frz_commands_journeys.specs.Journeying.{journeying_at}
use Rattle.frz_commands_journeys.proofs.InputHeard.{takes_none}
use Rattle.frz_commands_journeys.proofs.journey.play_from.Goals as goal

pub returns-in-Ok-clause-ran : goal.returns-in-Ok-clause-ran
returns-in-Ok-clause-ran g c = λ other.
    let names = c.args.names.now in
    as_read
    (journeying_at c.args.player names.table.now (map string_bytes names.behind.now)) _ _ _ _ _ _
    c.in-Ok.ensures.read c.as_bytes.ensures.value (c.play_at.ensures.ran other)

pub returns-in-Ok-clause-input_unused : goal.returns-in-Ok-clause-input_unused
returns-in-Ok-clause-input_unused g c = λ none.
    let names = c.args.names.now in
    let read = c.in-Ok.ensures.read ∙ ap fen_of c.as_bytes.ensures.value in
    c.play_at.ensures.unread
    (takes_none c.args.player.opponent
    (subst (λ (x : Result Board FenFault). (on_position (journeying_at c.args.player
    names.table.now (map string_bytes names.behind.now)) x).needs.input ≡ false) (sym read) none))

pub returns-in-Err-clause-ran : goal.returns-in-Err-clause-ran
returns-in-Err-clause-ran g c = λ other.
    let names = c.args.names.now in
    as_read
    (journeying_at c.args.player names.table.now (map string_bytes names.behind.now)) _ _ _ _ _ _
    c.in-Err.ensures.read c.as_bytes.ensures.value (c.refuse_named.ensures _ _ _)
