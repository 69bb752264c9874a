use Rattle.frz_game.proofs.Lemmas.{finite}
use Rattle.frz_commands_why.proofs.telling.wrong_entry.Goals as goal

pub local_at-given-requires-clause-sound : goal.local_at-given-requires-clause-sound
local_at-given-requires-clause-sound g c =
    let game = c.args.game.now in
    finite game.rules.now (g.B.ExitBook.value_at game.book.now)
    (g.met.B.ExitBook.small game.book.now) c.requires.few
