use Rattle.std.proofs.Common.{Some}
use Rattle.std.proofs.lemmas.Result.{IfOk-weaker}
use Rattle.frz_store.specs.Told.{store_of}
use Rattle.frz_table.specs.Opening.{contents_of, table_format}
use Rattle.frz_table.proofs.Drawn.{asked_bound_by, asked_by, asked_told_by, calls_by, carried_by, carries_table, may_open_by, may_refuse_by, memory_by, opened_by, refused_by}
use Rattle.frz_table.proofs.Refusing.{table_refines}
use Rattle.frz_table.proofs.opening.open_kind.Goals as goal

pub returns-clause-opened : goal.returns-clause-opened
returns-clause-opened g c =
    opened_by (table_format c.args.kind) (table_refines (Some c.args.kind)) c.args.name.now (λ t. contents_of t)
    (store_of g.S.Store c.args.store.now) (store_of g.S.Store c.open_steps.new.store)
    c.open_steps.result c.open_steps.ensures.run

pub returns-clause-refused : goal.returns-clause-refused
returns-clause-refused g c =
    refused_by (table_format c.args.kind) (table_refines (Some c.args.kind)) c.args.name.now (λ t. contents_of t)
    (store_of g.S.Store c.args.store.now) (store_of g.S.Store c.open_steps.new.store)
    c.open_steps.result c.open_steps.ensures.run

pub returns-clause-may_open : goal.returns-clause-may_open
returns-clause-may_open g c =
    may_open_by (table_format c.args.kind) (table_refines (Some c.args.kind)) c.args.name.now (λ t. contents_of t)
    (store_of g.S.Store c.args.store.now) (store_of g.S.Store c.open_steps.new.store)
    c.open_steps.result c.open_steps.ensures.run

pub returns-clause-may_refuse : goal.returns-clause-may_refuse
returns-clause-may_refuse g c =
    may_refuse_by (table_format c.args.kind) (table_refines (Some c.args.kind)) c.args.name.now (λ t. contents_of t)
    (store_of g.S.Store c.args.store.now) (store_of g.S.Store c.open_steps.new.store)
    c.open_steps.result c.open_steps.ensures.run

pub returns-clause-asked : goal.returns-clause-asked
returns-clause-asked g c =
    asked_by (table_format c.args.kind) (table_refines (Some c.args.kind)) c.args.name.now (λ t. contents_of t)
    (store_of g.S.Store c.args.store.now) (store_of g.S.Store c.open_steps.new.store)
    c.open_steps.result c.open_steps.ensures.run

pub returns-clause-asked_told : goal.returns-clause-asked_told
returns-clause-asked_told g c =
    asked_told_by (table_format c.args.kind) (table_refines (Some c.args.kind)) c.args.name.now (λ t. contents_of t)
    (store_of g.S.Store c.args.store.now) (store_of g.S.Store c.open_steps.new.store)
    c.open_steps.result c.open_steps.ensures.run

pub returns-clause-asked_bound : goal.returns-clause-asked_bound
returns-clause-asked_bound g c =
    asked_bound_by (table_format c.args.kind) (table_refines (Some c.args.kind)) c.args.name.now (λ t. contents_of t)
    (store_of g.S.Store c.args.store.now) (store_of g.S.Store c.open_steps.new.store)
    c.open_steps.result c.open_steps.ensures.run

pub returns-clause-calls : goal.returns-clause-calls
returns-clause-calls g c =
    calls_by (table_format c.args.kind) (table_refines (Some c.args.kind)) c.args.name.now (λ t. contents_of t)
    (store_of g.S.Store c.args.store.now) (store_of g.S.Store c.open_steps.new.store)
    c.open_steps.result c.open_steps.ensures.run

pub returns-clause-memory : goal.returns-clause-memory
returns-clause-memory g c =
    memory_by (table_format c.args.kind) (table_refines (Some c.args.kind)) c.args.name.now (λ t. contents_of t)
    (store_of g.S.Store c.args.store.now) (store_of g.S.Store c.open_steps.new.store)
    c.open_steps.result c.open_steps.ensures.run

pub returns-clause-carries : goal.returns-clause-carries
returns-clause-carries g c =
    carries_table (Some c.args.kind) c.args.name.now _ (g.S.Store.files c.open_steps.new.store)
    c.open_steps.result c.open_steps.ensures.run.quiet.unwritten.files
    (carried_by (table_format c.args.kind) (table_refines (Some c.args.kind)) c.args.name.now
    (λ t. contents_of t) (store_of g.S.Store c.args.store.now)
    (store_of g.S.Store c.open_steps.new.store) c.open_steps.result c.open_steps.ensures.run)
    c.open_steps.ensures.name c.open_steps.ensures.kind

pub returns-clause-kind : goal.returns-clause-kind
returns-clause-kind g c =
    IfOk-weaker c.open_steps.result _ _ (λ t k. k.is) c.open_steps.ensures.kind
