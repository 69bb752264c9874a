use Rattle.frz_store.specs.Told.{store_of}
use Rattle.frz_asks.proofs.Asked.{size_came}
use Rattle.frz_asks.proofs.size_of.Goals as goal

pub returns : goal.returns
returns g c =
    let e = c.size.ensures in
    size_came c.args.name.now c.size.result (store_of g.S.Store c.args.store.now)
    (store_of g.S.Store c.size.new.self) e.size e.files e.last e.room e.asked e.calls e.causes
