use Rattle.std.proofs.Common.{◌≡◌, ◌∙◌, ap, subst, ℕ, List, length, flat_map}
use Rattle.std.proofs.lemmas.Result.{err_from_is_err_and}
use Rattle.frz_store.specs.Told.{sink_of}
use Rattle.frz_answer.specs.Texts.{TookText, FailedWithin}
use Rattle.frz_report.specs.declared.fault.Totals.{Totals}
use Rattle.frz_report.specs.Census.{census}
use Rattle.frz_report.specs.Exits.{exits_of}
use Rattle.frz_report.specs.Lines.{class_line, last_line}
use Rattle.frz_report.specs.Reports.{totals_of}
use Rattle.frz_report.specs.Squeezes.{squeezes}
use Rattle.frz_report.proofs.Writing.{all_written, classes_failed, last_failed, stopped_early}
use Rattle.frz_report.proofs.reporting.write_report.Given.{Over}
use Rattle.frz_report.proofs.reporting.write_report.Goals as goal
use Rattle.frz_report.proofs.reporting.write_report.Goals.{After-write_totals}

module _ (g : Over) (c : After-write_totals g) where
  -- the lines of the classes were written
  took : TookText
      (flat_map class_line (census (exits_of c.args.game.now.rules.now
      (g.B.ExitBook.value_at c.args.game.now.book.now))))
      (sink_of g.O.Sink c.walk.new.out) (sink_of g.O.Sink c.write_classes.new.out)
  took =
      subst (λ (l : List (List ℕ × ℕ)). TookText (flat_map class_line l)
      (sink_of g.O.Sink c.walk.new.out) (sink_of g.O.Sink c.write_classes.new.out))
      c.in_ok-squeezes.ensures.counts c.in_ok-write_classes.ensures.ok

  -- the totals are those of the set
  totals : record { squeezes = c.in_ok-squeezes.squeezes; unassigned = c.walk.new.census.total }
      ≡ totals_of c.args.game.now.rules.now (g.B.ExitBook.value_at c.args.game.now.book.now)
      (g.E.Entries.codes c.args.entries.now)
  totals =
      ap (λ (k : ℕ). record { squeezes = k; unassigned = c.walk.new.census.total })
      c.in_ok-squeezes.ensures.wrote.0
      ∙ ap (λ (k : ℕ). record {
        squeezes = length (squeezes c.args.game.now.rules.now.groups
            (g.E.Entries.codes c.args.entries.now));
        unassigned = k;
      }) c.in_ok-squeezes.ensures.total

pub returns-in_err-squeezes-clause-wrote : goal.returns-in_err-squeezes-clause-wrote
returns-in_err-squeezes-clause-wrote g c =
    let p = err_from_is_err_and c.from_residual.result c.from_residual.ensures.1 in
    rw (p.1, p.2)
    (stopped_early _ _ _ _ c.in_err-squeezes.field-0.0
    (length (squeezes c.args.game.now.rules.now.groups (g.E.Entries.codes c.args.entries.now)))
    _ _ c.in_err-squeezes.ensures.wrote)

pub returns-in_err-write_classes-clause-wrote : goal.returns-in_err-write_classes-clause-wrote
returns-in_err-write_classes-clause-wrote g c =
    let p = err_from_is_err_and c.from_residual-in_err-write_classes.result
    c.from_residual-in_err-write_classes.ensures.1 in
    rw (p.1, p.2)
    (classes_failed _ _ _ _ _ _ c.in_ok-squeezes.ensures.wrote.1 _
    (subst (λ (l : List (List ℕ × ℕ)). FailedWithin (flat_map class_line l)
    (sink_of g.O.Sink c.walk.new.out) (sink_of g.O.Sink c.write_classes.new.out))
    c.in_ok-squeezes.ensures.counts c.in_err-write_classes.ensures.failed))

pub returns-in_err-write_totals-clause-wrote : goal.returns-in_err-write_totals-clause-wrote
returns-in_err-write_totals-clause-wrote g c =
    let here = (goal.at.returns-in_err-write_totals-clause-wrote g c).After-write_totals in
    let p = err_from_is_err_and c.from_residual-in_err-write_totals.result
    c.from_residual-in_err-write_totals.ensures.1 in
    rw (p.1, p.2)
    (last_failed _ _ _ _ _ _ c.in_ok-squeezes.ensures.wrote.1 _ (took g here) _
    (subst (λ (t : Totals). FailedWithin (last_line t.squeezes t.unassigned)
    (sink_of g.O.Sink c.write_classes.new.out) (sink_of g.O.Sink c.write_totals.new.out))
    (totals g here) c.in_err-write_totals.ensures.failed))

pub returns-clause-wrote : goal.returns-clause-wrote
returns-clause-wrote g c =
    let here = (goal.at.returns-clause-wrote g c).After-write_totals in
    all_written _ _ _ _ _ _ c.in_ok-squeezes.ensures.wrote.1 _ (took g here) _ _ (totals g here)
    (subst (λ (t : Totals). TookText (last_line t.squeezes t.unassigned)
    (sink_of g.O.Sink c.write_classes.new.out) (sink_of g.O.Sink c.write_totals.new.out))
    (totals g here) c.in_ok-write_totals.ensures.ok)
