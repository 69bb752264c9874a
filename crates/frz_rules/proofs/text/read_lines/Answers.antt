use Rattle.std.proofs.Common.{◌≡◌, sym, ap, ◌∙◌, inr}
use Rattle.frz_words.specs.Words.{words}
use Rattle.frz_rules.specs.Text.{◌>>=◌, at_line, lines_of, significant}
use Rattle.frz_rules.proofs.KnownLines.{first_is_known, line_known}
use Rattle.frz_rules.proofs.text.read_lines.Goals as goal

pub loop-line-preserved : goal.loop-line-preserved
loop-line-preserved c =
    let behind = significant c.next_line.new.lines in
    let line = words c.in-Some.line.text.now in
    let step : lines_of c.loop-line.rules (significant c.loop-line.lines) ≡ lines_of c.in-Ok.more
    behind =
    ap (lines_of c.loop-line.rules) c.in-Some.ensures.next
    ∙ ap (λ o. at_line c.in-Some.line.number o >>= λ r. lines_of r behind) c.in-Ok.ensures.read in
    record {
      same = sym step ∙ c.loop-line.invariant.same;
      known = inr (first_is_known (significant c.args.lines) (significant c.loop-line.lines) behind
          c.in-Some.line.number line
          c.loop-line.invariant.known c.in-Some.ensures.next
          (line_known c.loop-line.rules c.in-Ok.more line c.in-Some.ensures.counts
          c.in-Ok.ensures.read));
      few = c.in-Ok.ensures.few;
      short = c.in-Some.ensures.rest;
    }
