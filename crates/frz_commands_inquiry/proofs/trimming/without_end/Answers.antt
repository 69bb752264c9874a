use Rattle.std.proofs.Common.{ap, sym, ◌∙◌, arith, take}
use Rattle.frz_commands_inquiry.proofs.BlankEnds.{all_blank, all_kept, blank_more, no_blank}
use Rattle.frz_commands_inquiry.proofs.trimming.without_end.Goals as goal
use Rattle.frz_commands_inquiry.proofs.trimming.without_end.Goals.{then-loop-kept-test+else-is_blank, else-loop-kept-test}

pub loop-kept-init : goal.loop-kept-init
loop-kept-init g = record { within = omega arith; blank = all_kept g.args.line.now }

pub loop-kept-preserved : goal.loop-kept-preserved
loop-kept-preserved g =
    let here = g.loop-kept.invariant in
    let within = here.within in record {
      within = omega (arith, within);
      blank = blank_more g.args.line.now g.loop-kept.kept within g.loop-kept-test.true
          (sym g.is_blank.ensures ∙ g.if-is_blank.true) here.blank;
    }

pub returns : goal.returns
returns g =
    let line = g.args.line.now in
    let here = g.loop-kept.invariant in
    elim g.loop-kept-test.branch [
      | then-loop-kept-test+else-is_blank w ↦ ap (λ n. take n line)
          (sym (no_blank line g.loop-kept.kept here.within w.loop-kept-test.true
          (sym w.is_blank.ensures ∙ w.if-is_blank.false) here.blank))
      | else-loop-kept-test w ↦ ap (λ n. take n line)
          (sym (all_blank line g.loop-kept.kept
          (let none = w.loop-kept-test.false in omega (arith, none)) here.blank))
    ]
