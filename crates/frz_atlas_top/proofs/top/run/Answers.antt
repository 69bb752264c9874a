use Rattle.frz_store.specs.Told.{source_of, store_of}
use Rattle.frz_atlas_top.proofs.Calling.{as_command}
use Rattle.frz_atlas_top.proofs.top.run.Goals as goal

pub returns-in-Some-Build-default-clause-ran :
    goal.returns-in-Some-Build-default-clause-ran
returns-in-Some-Build-default-clause-ran g c =
    as_command _ _ _ _ _ (rw c.in-Some-Build-default.field-0-0-is at
    c.in-Some-Build-default.ensures)
    (c.run_build.ensures.ran (source_of g.I.Source c.args.input.now))

pub returns-in-Some-Check-default-clause-ran :
    goal.returns-in-Some-Check-default-clause-ran
returns-in-Some-Check-default-clause-ran g c =
    as_command _ _ _ _ _ (rw c.in-Some-Check-default.field-0-0-is at
    c.in-Some-Check-default.ensures)
    (c.run_check.ensures.ran (source_of g.I.Source c.args.input.now))

pub returns-in-Some-Query-default-clause-ran :
    goal.returns-in-Some-Query-default-clause-ran
returns-in-Some-Query-default-clause-ran g c =
    as_command _ _ _ _ _ (rw c.in-Some-Query-default.field-0-0-is at
    c.in-Some-Query-default.ensures)
    ((c.query_kind.ensures.replies c.args.steps.now).ran
    (source_of g.I.Source c.args.input.now) _ _ _ c.tell.ensures)

pub returns-in-Some-Each-default-clause-ran :
    goal.returns-in-Some-Each-default-clause-ran
returns-in-Some-Each-default-clause-ran g c =
    as_command _ _ _ _ _ (rw c.in-Some-Each-default.field-0-0-is at
    c.in-Some-Each-default.ensures)
    (c.run_each.ensures.ran (source_of g.I.Source c.args.input.now))

pub returns-in-Some-Ask-default-clause-ran :
    goal.returns-in-Some-Ask-default-clause-ran
returns-in-Some-Ask-default-clause-ran g c =
    as_command _ _ _ _ _ (rw c.in-Some-Ask-default.field-0-0-is at
    c.in-Some-Ask-default.ensures) c.run_ask.ensures.ran

pub returns-in-Some-Line-default-clause-ran :
    goal.returns-in-Some-Line-default-clause-ran
returns-in-Some-Line-default-clause-ran g c =
    as_command _ _ _ _ _ (rw c.in-Some-Line-default.field-0-0-is at
    c.in-Some-Line-default.ensures)
    (c.run_line.ensures.ran (source_of g.I.Source c.args.input.now))

pub returns-in-Some-Play-default-clause-ran :
    goal.returns-in-Some-Play-default-clause-ran
returns-in-Some-Play-default-clause-ran g c =
    as_command _ _ _ _ _ (rw c.in-Some-Play-default.field-0-0-is at
    c.in-Some-Play-default.ensures) c.run_play.ensures.ran

pub returns-in-Some-Why-default-clause-ran :
    goal.returns-in-Some-Why-default-clause-ran
returns-in-Some-Why-default-clause-ran g c =
    as_command _ _ _ _ _ (rw c.in-Some-Why-default.field-0-0-is at
    c.in-Some-Why-default.ensures)
    (c.run_why.ensures.ran (source_of g.I.Source c.args.input.now))

pub returns-in-Some-Verdict-default-clause-ran :
    goal.returns-in-Some-Verdict-default-clause-ran
returns-in-Some-Verdict-default-clause-ran g c =
    as_command _ _ _ _ _ (rw c.in-Some-Verdict-default.field-0-0-is at
    c.in-Some-Verdict-default.ensures)
    (c.run_verdict.ensures.ran (source_of g.I.Source c.args.input.now))

pub returns-in-Some-Premises-default-clause-ran :
    goal.returns-in-Some-Premises-default-clause-ran
returns-in-Some-Premises-default-clause-ran g c =
    as_command _ _ _ _ _ (rw c.in-Some-Premises-default.field-0-0-is at
    c.in-Some-Premises-default.ensures)
    (c.run_premises.ensures.ran (source_of g.I.Source c.args.input.now))

pub returns-in-Some-Report-default-clause-ran :
    goal.returns-in-Some-Report-default-clause-ran
returns-in-Some-Report-default-clause-ran g c =
    as_command _ _ _ _ _ (rw c.in-Some-Report-default.field-0-0-is at
    c.in-Some-Report-default.ensures)
    (c.run_report.ensures.ran (source_of g.I.Source c.args.input.now))

pub returns-in-Some-Size-default-clause-ran :
    goal.returns-in-Some-Size-default-clause-ran
returns-in-Some-Size-default-clause-ran g c =
    as_command _ _ _ _ _ (rw c.in-Some-Size-default.field-0-0-is at
    c.in-Some-Size-default.ensures)
    (c.run_size.ensures.ran (source_of g.I.Source c.args.input.now) c.args.steps.now)

pub returns-in-None-clause-ran :
    goal.returns-in-None-clause-ran
returns-in-None-clause-ran g c =
    as_command _ _ _ _ _ c.in-None.ensures
    (c.refuse.ensures (store_of g.S.Store c.args.store.now)
    (source_of g.I.Source c.args.input.now)
    c.args.steps.now)
