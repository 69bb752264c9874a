use Rattle.std.proofs.lemmas.Result.{IfOk-weaker}
use Rattle.frz_store.specs.Told.{store_of}
use Rattle.frz_table.specs.Tables.{Table}
use Rattle.frz_atlas.proofs.Causes.{file_cause}
use Rattle.frz_atlas.proofs.OwnKinds.{opened_own, own_kind, refused_own}
use Rattle.frz_atlas.proofs.kinds.open_own.Goals as goal

pub returns-clause-opened : goal.returns-clause-opened
returns-clause-opened g c =
    opened_own (g.S.Store.files c.args.store.now) c.args.name.now c.open_own.result
    c.open_own.ensures.may_open

pub returns-clause-refused : goal.returns-clause-refused
returns-clause-refused g c =
    refused_own c.args.name.now (store_of g.S.Store c.args.store.now)
    (store_of g.S.Store c.open_own.new.store) c.open_own.result c.open_own.ensures.may_refuse

pub returns-clause-kind : goal.returns-clause-kind
returns-clause-kind g c =
    IfOk-weaker c.open_own.result _ _ (λ t k. own_kind _ _ _ k) c.open_own.ensures.kind

pub returns-clause-cause : goal.returns-clause-cause
returns-clause-cause g c =
    file_cause Table c.open_own.result (store_of g.S.Store c.args.store.now)
    (store_of g.S.Store c.open_own.new.store) c.open_own.ensures.causes
