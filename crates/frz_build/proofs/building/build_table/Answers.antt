use Rattle.std.proofs.Common.{ℕ}
use Rattle.frz_store.specs.Told.{store_of}
use Rattle.frz_table.specs.Layout.{magic_of}
use Rattle.frz_build.proofs.Built.{unbuilt}
use Rattle.frz_build.proofs.building.build_table.Goals as goal

pub returns-in-Err-clause-built : goal.returns-in-Err-clause-built
returns-in-Err-clause-built g c =
    let game = c.args.game.now in
    let file = c.args.file.now in
    unbuilt {T = ℕ} (magic_of file.kind) file.text.now game.rules.now
    (g.B.ExitBook.value_at game.book.now) file.name.now (store_of g.S.Store c.args.store.now)
    (g.met.B.ExitBook.small game.book.now)
