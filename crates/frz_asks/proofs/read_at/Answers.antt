use Rattle.std.proofs.Common.{rules}
use Rattle.frz_store.specs.Told.{store_of}
use Rattle.frz_asks.proofs.Asked.{bytes_came, bytes_halted}
use Rattle.frz_asks.proofs.read_at.Goals as goal

pub returns-clause-came : goal.returns-clause-came
returns-clause-came g c =
    let e = c.read.ensures in
    bytes_came c.args.name.now c.args.at c.args.into.now c.read.new.into c.read.result
    (store_of g.S.Store c.args.store.now)
    (store_of g.S.Store c.read.new.self) c.requires c.read.auto.into (search rules)
    e.bytes e.files e.last e.room e.asked e.asked_grows e.calls e.causes

pub returns-clause-halted : goal.returns-clause-halted
returns-clause-halted g c =
    let e = c.read.ensures in
    bytes_halted c.args.name.now c.args.at c.args.into.now c.read.result
    (store_of g.S.Store c.args.store.now)
    (store_of g.S.Store c.read.new.self) e.files e.last e.room e.asked e.asked_grows e.calls e.causes
