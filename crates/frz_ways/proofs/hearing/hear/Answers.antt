use Rattle.std.proofs.Common.{refl, sym, ap, ◌∙◌}
use Rattle.frz_store.specs.Told.{source_of, sink_of}
use Rattle.frz_ways.specs.Reading.{place_said}
use Rattle.frz_ways.proofs.LinesHeard.{hears_start, hears_stop, hears_fault, hears_reply, hears_refused, hears_failed, hears_fails, heard_as}
use Rattle.frz_ways.proofs.hearing.hear.Goals as goal

pub lines-init : goal.lines-init
lines-init g c = record {
  far = hears_start c.args.list.now.items c.args.reader.now (source_of g.I.Source c.args.input.now)
      (sink_of g.O.Sink c.args.out.now) c.requires.ended;
  faults = refl;
}

pub returns-in_default-clause-heard : goal.returns-in_default-clause-heard
returns-in_default-clause-heard g c =
    hears_fault c.lines.invariant.far c.in_default.ensures.heard

pub returns-in-Some-clause-heard : goal.returns-in-Some-clause-heard
returns-in-Some-clause-heard g c =
    hears_stop c.lines.invariant.far (heard_as c.in-Some.is c.in-Ok.ensures.heard)

pub returns-in-Some-place_of-clause-heard : goal.returns-in-Some-place_of-clause-heard
returns-in-Some-place_of-clause-heard g c =
    hears_reply c.lines.invariant.far
    (ap (place_said c.args.list.now.items) (sym c.as_slice.ensures.value)
    ∙ (sym c.place_of.ensures.place ∙ c.in-Some-place_of.is))
    (heard_as c.in_default-next.is c.in-Ok.ensures.heard)

pub lines-preserved : goal.lines-preserved
lines-preserved g c = record {
  far = hears_refused c.lines.invariant.far
      (ap (place_said c.args.list.now.items) (sym c.as_slice.ensures.value)
      ∙ (sym c.place_of.ensures.place ∙ c.in_default-place_of.is))
      (heard_as c.in_default-next.is c.in-Ok.ensures.heard)
      c.in_ok-write_refused.ensures.ok;
  faults = c.in-Ok.ensures.cause.fine ∙ c.lines.invariant.faults;
}

pub returns-in_err-write_refused-clause-heard : goal.returns-in_err-write_refused-clause-heard
returns-in_err-write_refused-clause-heard g c =
    hears_fails c.from_residual.ensures.1
    (hears_failed c.lines.invariant.far
    (ap (place_said c.args.list.now.items) (sym c.as_slice.ensures.value)
    ∙ (sym c.place_of.ensures.place ∙ c.in_default-place_of.is))
    (heard_as c.in_default-next.is c.in-Ok.ensures.heard) c.in_err-write_refused.ensures.failed)
