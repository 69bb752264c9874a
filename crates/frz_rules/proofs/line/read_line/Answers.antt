use Rattle.std.proofs.Common.{sym, subst}
use Rattle.frz_words.specs.Words.{words}
use Rattle.frz_rules.specs.Reading.{Reads}
use Rattle.frz_rules.proofs.LineReading.{group_reads, forbid_reads, exit_reads, unknown_reads, nothing_reads}
use Rattle.frz_rules.proofs.line.read_line.Goals as goal

pub returns-in_default-clause-read : goal.returns-in_default-clause-read
returns-in_default-clause-read c =
    nothing_reads c.args.rules (words c.args.line.now) c.in_default.ensures.word

pub returns-then-is_word-clause-read : goal.returns-then-is_word-clause-read
returns-then-is_word-clause-read c =
    subst (Reads c.read_group_line.result)
    (group_reads c.args.rules (words c.args.line.now) c.in-Some.w.now (words c.in-Some.rest.now)
    c.in-Some.ensures.word (sym c.if-is_word.ensures))
    c.read_group_line.ensures.read

pub returns-then-is_word-2-clause-read : goal.returns-then-is_word-2-clause-read
returns-then-is_word-2-clause-read c =
    subst (Reads c.read_forbid_line.result)
    (forbid_reads c.args.rules (words c.args.line.now) c.in-Some.w.now (words c.in-Some.rest.now)
    c.in-Some.ensures.word (sym c.if-is_word.ensures) (sym c.if-is_word-2.ensures))
    c.read_forbid_line.ensures.read

pub returns-then-is_word-3-clause-read : goal.returns-then-is_word-3-clause-read
returns-then-is_word-3-clause-read c =
    subst (Reads c.read_exit_line.result)
    (exit_reads c.args.rules (words c.args.line.now) c.in-Some.w.now (words c.in-Some.rest.now)
    c.in-Some.ensures.word (sym c.if-is_word.ensures) (sym c.if-is_word-2.ensures)
    (sym c.if-is_word-3.ensures))
    c.read_exit_line.ensures.read

pub returns-else-is_word-3-clause-read : goal.returns-else-is_word-3-clause-read
returns-else-is_word-3-clause-read c =
    unknown_reads c.args.rules (words c.args.line.now) c.in-Some.w.now (words c.in-Some.rest.now)
    c.in-Some.ensures.word (sym c.if-is_word.ensures) (sym c.if-is_word-2.ensures)
    (sym c.if-is_word-3.ensures)
