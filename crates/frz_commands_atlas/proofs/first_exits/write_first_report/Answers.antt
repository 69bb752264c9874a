use Rattle.std.proofs.Common.{◌≡◌, ◌∙◌, ap, subst, ℕ, List, length}
use Rattle.std.specs.Prelude.{flat_map}
use Rattle.std.proofs.lemmas.Result.{err_from_is_err_and}
use Rattle.frz_board.specs.Boards.{Board}
use Rattle.frz_sets.specs.declared.exit.Value.{Value}
use Rattle.frz_store.specs.Told.{sink_of}
use Rattle.frz_answer.specs.Texts.{TookText, FailedWithin}
use Rattle.frz_report.specs.declared.fault.Totals.{Totals}
use Rattle.frz_report.specs.Exits.{positions_of}
use Rattle.frz_report.specs.Lines.{last_line}
use Rattle.frz_report.specs.Reports.{totals_of}
use Rattle.frz_report.specs.Squeezes.{squeezes}
use Rattle.frz_report.proofs.Lemmas.{all_written, classes_failed, last_failed, stopped_behind, stopped_early}
use Rattle.frz_commands_atlas.specs.declared.first_exits.FirstExit.{FirstExit}
use Rattle.frz_commands_atlas.specs.FirstExits.{first_line, firsts_text, listed, rarity}
use Rattle.frz_commands_atlas.specs.InOrder.{in_order}
use Rattle.frz_commands_atlas.proofs.FirstExits.{one_ranked, ranked_valid}
use Rattle.frz_commands_atlas.proofs.first_exits.write_first_report.Given.{Over}
use Rattle.frz_commands_atlas.proofs.first_exits.write_first_report.Goals as goal
use Rattle.frz_commands_atlas.proofs.first_exits.write_first_report.Goals.{After-write_firsts, After-write_totals}

module _ (g : Over) (c : After-write_firsts g) where
  abbrev value : Board → Value
  value = g.B.ExitBook.value_at c.args.game.now.book.now

  abbrev exits : List Board
  exits = positions_of c.args.game.now.rules.now value

  -- the rows that are written
  rows_are : c.deref.result.now ≡ in_order rarity (listed exits)
  rows_are = c.deref.ensures.value
      ∙ one_ranked exits c.in_ok-rows.rows.items
      (c.in_ok-rows.ensures exits c.in_ok-squeezes.ensures.firsts)

module _ (g : Over) (c : After-write_totals g) where
  took : TookText
      (firsts_text c.args.game.now.rules.now (g.B.ExitBook.value_at c.args.game.now.book.now))
      (sink_of g.O.Sink c.walk.new.out) (sink_of g.O.Sink c.write_firsts.new.out)
  took =
      subst (λ (l : List FirstExit). TookText (flat_map first_line l)
      (sink_of g.O.Sink c.walk.new.out) (sink_of g.O.Sink c.write_firsts.new.out))
      (c.deref.ensures.value
      ∙ one_ranked (positions_of c.args.game.now.rules.now
      (g.B.ExitBook.value_at c.args.game.now.book.now)) c.in_ok-rows.rows.items
      (c.in_ok-rows.ensures _ c.in_ok-squeezes.ensures.firsts)) c.in_ok-write_firsts.ensures.ok

  totals : record { squeezes = c.in_ok-squeezes.squeezes; unassigned = c.walk.new.census.total }
      ≡ totals_of c.args.game.now.rules.now (g.B.ExitBook.value_at c.args.game.now.book.now)
      (g.E.Entries.codes c.args.entries.now)
  totals =
      ap (λ (k : ℕ). record { squeezes = k; unassigned = c.walk.new.census.total })
      c.in_ok-squeezes.ensures.wrote.0
      ∙ ap (λ (k : ℕ). record {
        squeezes = length (squeezes c.args.game.now.rules.now.groups
            (g.E.Entries.codes c.args.entries.now));
        unassigned = k;
      }) c.in_ok-squeezes.ensures.total

pub write_firsts-requires : goal.write_firsts-requires
write_firsts-requires g c =
    let exits = positions_of c.args.game.now.rules.now
    (g.B.ExitBook.value_at c.args.game.now.book.now) in
    let kept = c.in_ok-squeezes.ensures.firsts in
    rw c.deref.ensures.value
    (ranked_valid c.walk.new.census.firsts.items exits c.in_ok-rows.rows.items kept.1
    (c.in_ok-rows.ensures exits kept))

pub returns-in_err-squeezes-clause-wrote : goal.returns-in_err-squeezes-clause-wrote
returns-in_err-squeezes-clause-wrote g c =
    let p = err_from_is_err_and c.from_residual.result c.from_residual.ensures.1 in
    rw (p.1, p.2)
    (stopped_early _ _ _ _ c.in_err-squeezes.field-0.0
    (length (squeezes c.args.game.now.rules.now.groups (g.E.Entries.codes c.args.entries.now)))
    _ _ c.in_err-squeezes.ensures.wrote)

pub returns-in_err-rows-clause-wrote : goal.returns-in_err-rows-clause-wrote
returns-in_err-rows-clause-wrote g c =
    let p = err_from_is_err_and c.from_residual-in_err-rows.result
    c.from_residual-in_err-rows.ensures.1 in
    rw (p.1, p.2)
    (stopped_behind _ _ _ _ _ _ c.in_ok-squeezes.ensures.wrote.1)

pub returns-in_err-write_firsts-clause-wrote : goal.returns-in_err-write_firsts-clause-wrote
returns-in_err-write_firsts-clause-wrote g c =
    let here = (goal.at.returns-in_err-write_firsts-clause-wrote g c).After-write_firsts in
    let p = err_from_is_err_and c.from_residual-in_err-write_firsts.result
    c.from_residual-in_err-write_firsts.ensures.1 in
    rw (p.1, p.2)
    (classes_failed _ _ _ _ _ _ c.in_ok-squeezes.ensures.wrote.1 _
    (subst (λ (l : List FirstExit). FailedWithin (flat_map first_line l)
    (sink_of g.O.Sink c.walk.new.out) (sink_of g.O.Sink c.write_firsts.new.out))
    (rows_are g here) c.in_err-write_firsts.ensures.failed))

pub returns-in_err-write_totals-clause-wrote : goal.returns-in_err-write_totals-clause-wrote
returns-in_err-write_totals-clause-wrote g c =
    let here = (goal.at.returns-in_err-write_totals-clause-wrote g c).After-write_totals in
    let p = err_from_is_err_and c.from_residual-in_err-write_totals.result
    c.from_residual-in_err-write_totals.ensures.1 in
    rw (p.1, p.2)
    (last_failed _ _ _ _ _ _ c.in_ok-squeezes.ensures.wrote.1 _ (took g here) _
    (subst (λ (t : Totals). FailedWithin (last_line t.squeezes t.unassigned)
    (sink_of g.O.Sink c.write_firsts.new.out) (sink_of g.O.Sink c.write_totals.new.out))
    (totals g here) c.in_err-write_totals.ensures.failed))

pub returns-clause-wrote : goal.returns-clause-wrote
returns-clause-wrote g c =
    let here = (goal.at.returns-clause-wrote g c).After-write_totals in
    all_written _ _ _ _ _ _ c.in_ok-squeezes.ensures.wrote.1 _ (took g here) _ _ (totals g here)
    (subst (λ (t : Totals). TookText (last_line t.squeezes t.unassigned)
    (sink_of g.O.Sink c.write_firsts.new.out) (sink_of g.O.Sink c.write_totals.new.out))
    (totals g here) c.in_ok-write_totals.ensures.ok)
