use Rattle.std.proofs.Common.{◌≡◌, ap, arith, sym, ◌∙◌}
use Rattle.frz_words.specs.Words.{words}
use Rattle.frz_rules.specs.declared.fault.RulesError.TheVariants as errors
use Rattle.frz_rules.specs.Text.{significant}
use Rattle.frz_rules.proofs.KnownLines.{wants}
use Rattle.frz_rules.proofs.Sounding.{lines_sound}
use Rattle.frz_rules.proofs.text.read_text.Goals as goal

pub whole-requires : goal.whole-requires
whole-requires c =
    lines_sound (significant c.next_line.new.lines) c.in-Ok.rules c.in-Ok.ensures.read

pub returns-in-Err-clause-memory : goal.returns-in-Err-clause-memory
returns-in-Err-clause-memory c = λ e.
    let none : c.in-Err.e ≡ errors.NoMemory = cc in
    wants c.args.text.now c.in-Some.first.number (words c.in-Some.first.text.now)
    (significant c.next_line.new.lines)
    (omega (arith, c.if-text-gt-LONGEST_TEXT.false))
    (ap significant (sym c.new-lines.ensures.lines) ∙ c.in-Some.ensures.next)
    (sym c.if-not-is_header.ensures) (c.in-Err.ensures.memory (cc))
