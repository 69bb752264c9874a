use Rattle.std.proofs.Common.{map}
use Rattle.frz_store.specs.Told.{store_of}
use Rattle.frz_backs.specs.FileOn.{loaded_back}
use Rattle.frz_atlas.proofs.TableFound.{exact_found, not_found, wrong_found}
use Rattle.frz_atlas.proofs.opening.open_over.Goals as goal

pub returns-in-Err-clause-refused : goal.returns-in-Err-clause-refused
returns-in-Err-clause-refused g c =
    not_found (map loaded_back c.args.before.now) c.args.name.now
    (store_of g.S.Store c.args.store.now) (store_of g.S.Store c.load_own.new.store)
    c.args.steps.now c.in-Err.fault c.in-Err.ensures.refused

pub returns-in-Exact-clause-opened : goal.returns-in-Exact-clause-opened
returns-in-Exact-clause-opened g c =
    exact_found (map loaded_back c.args.before.now) c.args.name.now c.in-Ok.back
    c.verdict_over.result (store_of g.S.Store c.args.store.now)
    (store_of g.S.Store c.load_own.new.store) c.args.steps.now c.verdict_over.new.steps
    c.in-Ok.ensures.loaded c.verdict_over.ensures.steps c.verdict_over.ensures.verdict
    c.in-Exact.is

pub returns-in-Wrong-clause-refused : goal.returns-in-Wrong-clause-refused
returns-in-Wrong-clause-refused g c =
    wrong_found (map loaded_back c.args.before.now) c.args.name.now c.in-Ok.back
    c.verdict_over.result (store_of g.S.Store c.args.store.now)
    (store_of g.S.Store c.load_own.new.store) c.args.steps.now c.verdict_over.new.steps
    c.in-Ok.ensures.loaded c.verdict_over.ensures.steps c.verdict_over.ensures.verdict
    c.in-Wrong.wrong c.in-Wrong.is
