use Rattle.std.proofs.Common.{ℕ}
use Rattle.frz_store.specs.Told.{store_of}
use Rattle.frz_table.specs.Layout.{magic_of}
use Rattle.frz_build.proofs.Built.{unbuilt}
use Rattle.frz_build.proofs.ruled.build_ruled.Goals as goal

pub returns-in_default-clause-built : goal.returns-in_default-clause-built
returns-in_default-clause-built g c =
    let file = c.args.file.now in
    unbuilt {T = ℕ} (magic_of file.kind) file.text.now c.args.rules.now
    (g.B.ExitBook.value_at c.args.book.now) file.name.now (store_of g.S.Store c.args.store.now)
    (g.met.B.ExitBook.small c.args.book.now)
