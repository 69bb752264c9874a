use Rattle.std.proofs.Common.{None}
use Rattle.frz_store.specs.Told.{store_of}
use Rattle.frz_table.specs.Opening.{contents_of, own_format}
use Rattle.frz_table.proofs.Drawn.{asked_by, calls_by, carried_by, carries_table, may_open_by, may_refuse_by}
use Rattle.frz_table.proofs.Refusing.{table_refines}
use Rattle.frz_table.proofs.opening.open_own.Goals as goal

pub returns-clause-may_open : goal.returns-clause-may_open
returns-clause-may_open g c =
    may_open_by own_format (table_refines None) c.args.name.now (λ t. contents_of t)
    (store_of g.S.Store c.args.store.now) (store_of g.S.Store c.open_steps.new.store)
    c.open_steps.result c.open_steps.ensures.run

pub returns-clause-may_refuse : goal.returns-clause-may_refuse
returns-clause-may_refuse g c =
    may_refuse_by own_format (table_refines None) c.args.name.now (λ t. contents_of t)
    (store_of g.S.Store c.args.store.now) (store_of g.S.Store c.open_steps.new.store)
    c.open_steps.result c.open_steps.ensures.run

pub returns-clause-asked : goal.returns-clause-asked
returns-clause-asked g c =
    asked_by own_format (table_refines None) c.args.name.now (λ t. contents_of t)
    (store_of g.S.Store c.args.store.now) (store_of g.S.Store c.open_steps.new.store)
    c.open_steps.result c.open_steps.ensures.run

pub returns-clause-calls : goal.returns-clause-calls
returns-clause-calls g c =
    calls_by own_format (table_refines None) c.args.name.now (λ t. contents_of t)
    (store_of g.S.Store c.args.store.now) (store_of g.S.Store c.open_steps.new.store)
    c.open_steps.result c.open_steps.ensures.run

pub returns-clause-carries : goal.returns-clause-carries
returns-clause-carries g c =
    carries_table None c.args.name.now _ (g.S.Store.files c.open_steps.new.store)
    c.open_steps.result c.open_steps.ensures.run.quiet.unwritten.files
    (carried_by own_format (table_refines None) c.args.name.now (λ t. contents_of t)
    (store_of g.S.Store c.args.store.now) (store_of g.S.Store c.open_steps.new.store)
    c.open_steps.result c.open_steps.ensures.run)
    c.open_steps.ensures.name c.open_steps.ensures.kind
