use Rattle.frz_store.specs.Told.{source_of, store_of}
use Rattle.frz_freezer_top.proofs.Calling.{as_command, with_any_later}
use Rattle.frz_freezer_top.proofs.top.run.Goals as goal

pub returns-in-Some-Solve-default-clause-ran :
    goal.returns-in-Some-Solve-default-clause-ran
returns-in-Some-Solve-default-clause-ran g c =
    let command = c.in-Some-Solve-default in
    with_any_later _ _ _ (rw command.field-0-0-is at command.ensures) _
    (λ later. c.solve.ensures.replies.ran (source_of g.I.Source c.args.input.now) _ _ _
    c.tell.ensures)

pub returns-in-Some-Moves-default-clause-ran :
    goal.returns-in-Some-Moves-default-clause-ran
returns-in-Some-Moves-default-clause-ran g c =
    let command = c.in-Some-Moves-default in
    with_any_later _ _ _ (rw command.field-0-0-is at command.ensures) _
    (λ later. c.run_moves.ensures (store_of g.S.Store c.args.store.now)
    (source_of g.I.Source c.args.input.now))

pub returns-in-Some-Sans-default-clause-ran :
    goal.returns-in-Some-Sans-default-clause-ran
returns-in-Some-Sans-default-clause-ran g c =
    let command = c.in-Some-Sans-default in
    with_any_later _ _ _ (rw command.field-0-0-is at command.ensures) _
    (λ later. c.run_sans.ensures (store_of g.S.Store c.args.store.now)
    (source_of g.I.Source c.args.input.now))

pub returns-in-Some-Move-default-clause-ran :
    goal.returns-in-Some-Move-default-clause-ran
returns-in-Some-Move-default-clause-ran g c =
    let command = c.in-Some-Move-default in
    with_any_later _ _ _ (rw command.field-0-0-is at command.ensures) _
    (λ later. (c.make_move.ensures (store_of g.S.Store c.args.store.now)).ran
    (source_of g.I.Source c.args.input.now) _ _ _ c.tell-in-Some-Move-default.ensures)

pub returns-in-Some-Query-default-clause-ran :
    goal.returns-in-Some-Query-default-clause-ran
returns-in-Some-Query-default-clause-ran g c =
    let command = c.in-Some-Query-default in
    with_any_later _ _ _ (rw command.field-0-0-is at command.ensures) _
    (λ later. (c.query.ensures.replies c.args.steps.now).ran
    (source_of g.I.Source c.args.input.now) _ _ _ c.tell-in-Some-Query-default.ensures)

pub returns-in-Some-Line-default-clause-ran :
    goal.returns-in-Some-Line-default-clause-ran
returns-in-Some-Line-default-clause-ran g c =
    let command = c.in-Some-Line-default in
    let w = c.run_line.ensures.ran in (
      w.0,
      w.1,
      as_command _ _ _ (rw command.field-0-0-is at command.ensures) w.0
          (w.2 (source_of g.I.Source c.args.input.now)),
    )

pub returns-in-Some-Play-default-clause-ran :
    goal.returns-in-Some-Play-default-clause-ran
returns-in-Some-Play-default-clause-ran g c =
    let command = c.in-Some-Play-default in
    let w = c.run_play.ensures.ran in
    (w.0, w.1, as_command _ _ _ (rw command.field-0-0-is at command.ensures) w.0 w.2)

pub returns-in-Some-Check-default-clause-ran :
    goal.returns-in-Some-Check-default-clause-ran
returns-in-Some-Check-default-clause-ran g c =
    let command = c.in-Some-Check-default in
    with_any_later _ _ _ (rw command.field-0-0-is at command.ensures) _
    (λ later. c.check.ensures.replies.ran (source_of g.I.Source c.args.input.now) _ _ _
    c.tell-in-Some-Check-default.ensures)

pub returns-in-Some-Build-default-clause-ran :
    goal.returns-in-Some-Build-default-clause-ran
returns-in-Some-Build-default-clause-ran g c =
    let command = c.in-Some-Build-default in
    with_any_later _ _ _ (rw command.field-0-0-is at command.ensures) _
    (λ later. c.build.ensures.replies.ran (source_of g.I.Source c.args.input.now) _ _ _
    c.tell-in-Some-Build-default.ensures)

pub returns-in-Some-Migrate-default-clause-ran :
    goal.returns-in-Some-Migrate-default-clause-ran
returns-in-Some-Migrate-default-clause-ran g c =
    let command = c.in-Some-Migrate-default in
    with_any_later _ _ _ (rw command.field-0-0-is at command.ensures) _
    (λ later. (c.migrate.ensures.replies c.args.steps.now).ran
    (source_of g.I.Source c.args.input.now) _ _ _ c.tell-in-Some-Migrate-default.ensures)

pub returns-in-Some-Chain-default-clause-ran :
    goal.returns-in-Some-Chain-default-clause-ran
returns-in-Some-Chain-default-clause-ran g c =
    let command = c.in-Some-Chain-default in
    with_any_later _ _ _ (rw command.field-0-0-is at command.ensures) _
    (λ later. c.chain.ensures.replies.ran (source_of g.I.Source c.args.input.now) _ _ _
    c.tell-in-Some-Chain-default.ensures)

pub returns-in-Some-ChainCheck-default-clause-ran :
    goal.returns-in-Some-ChainCheck-default-clause-ran
returns-in-Some-ChainCheck-default-clause-ran g c =
    let command = c.in-Some-ChainCheck-default in
    with_any_later _ _ _ (rw command.field-0-0-is at command.ensures) _
    (λ later. c.chaincheck.ensures.replies.ran (source_of g.I.Source c.args.input.now) _ _ _
    c.tell-in-Some-ChainCheck-default.ensures)

pub returns-in-Some-ChainQuery-default-clause-ran :
    goal.returns-in-Some-ChainQuery-default-clause-ran
returns-in-Some-ChainQuery-default-clause-ran g c =
    let command = c.in-Some-ChainQuery-default in
    with_any_later _ _ _ (rw command.field-0-0-is at command.ensures) _
    (λ later. (c.chainquery.ensures.replies c.args.steps.now).ran
    (source_of g.I.Source c.args.input.now) _ _ _ c.tell-in-Some-ChainQuery-default.ensures)

pub returns-in-Some-Sample-default-clause-ran :
    goal.returns-in-Some-Sample-default-clause-ran
returns-in-Some-Sample-default-clause-ran g c =
    let command = c.in-Some-Sample-default in
    with_any_later _ _ _ (rw command.field-0-0-is at command.ensures) _
    (λ later. c.run_sample.ensures (store_of g.S.Store c.args.store.now)
    (source_of g.I.Source c.args.input.now))

pub returns-in-Some-Report-default-clause-ran :
    goal.returns-in-Some-Report-default-clause-ran
returns-in-Some-Report-default-clause-ran g c =
    let command = c.in-Some-Report-default in
    with_any_later _ _ _ (rw command.field-0-0-is at command.ensures) _
    (λ later. c.run_report.ensures.ran (source_of g.I.Source c.args.input.now))

pub returns-in-None-clause-ran :
    goal.returns-in-None-clause-ran
returns-in-None-clause-ran g c =
    with_any_later _ _ _ c.in-None.ensures _
    (λ later. c.refuse.ensures (store_of g.S.Store c.args.store.now)
    (source_of g.I.Source c.args.input.now) c.args.steps.now)
