use Rattle.std.proofs.Common.{◌≡◌, ◌∙◌, ◌+◌, ◌<◌, ◌≤◌, ap, ℕ, refl, sym, subst, length, arith}
use Rattle.frz_sets.specs.Sets.{size_of}
use Rattle.frz_store.specs.Told.{sink_of}
use Rattle.frz_answer.specs.Texts.{TookText}
use Rattle.frz_answer.proofs.Lemmas.{took_nothing}
use Rattle.frz_report.specs.Exits.{exits_below, positions_below}
use Rattle.frz_report.specs.Squeezes.{squeeze_at, squeezes, squeezes_below}
use Rattle.frz_report.specs.Walks.{Counts, KeepsFirsts, WritesSome, lines_below, one_of}
use Rattle.frz_report.proofs.Looking.{holds_of_known_fault}
use Rattle.frz_report.proofs.Walking.{many_more, one_at_most, stopped_more, took_more}
use Rattle.frz_report.proofs.walk.walk.Goals as goal

pub loop-number-init : goal.loop-number-init
loop-number-init g c = record {
  took = took_nothing (sink_of g.O.Sink c.args.out.now);
  squeezes = refl;
  few_squeezes = omega arith;
  counts = c.requires.none;
  firsts = c.requires.firsts;
  total = c.requires.total;
  few = (let none = c.requires.total in omega arith);
  steps = omega arith;
  later = omega arith;
}

pub loop-number-preserved : goal.loop-number-preserved
loop-number-preserved g c =
    let rules = c.args.game.now.rules.now in
    let codes = g.E.Entries.codes c.args.entries.now in
    let n = c.loop-number.number in
    let e = c.in_ok-squeezes.ensures in
    let i = c.loop-number.invariant in
    let size_is : c.size-number-end.result ≡ size_of rules.groups = c.size-number-end.ensures.size
    ∙ ap size_of c.args.game.now.fits in
    let low : n < size_of rules.groups = omega arith in
    let one : c.in_ok-squeezes.field-0 ≡ one_of (squeeze_at rules.groups codes n) = e.wrote.0 in
    let most : one_of (squeeze_at rules.groups codes n) ≤ 1 = one_at_most rules codes
    (squeeze_at rules.groups codes n) in
    record {
      took = took_more rules codes n (size_of rules.groups) (sink_of g.O.Sink c.args.out.now)
          (sink_of g.O.Sink c.loop-number.out) (sink_of g.O.Sink c.look.new.out) low i.took
          e.wrote.1;
      squeezes = ap (λ (k : ℕ). k + c.in_ok-squeezes.field-0) i.squeezes
          ∙ ap (λ (k : ℕ). length (squeezes_below rules.groups codes n) + k) one
          ∙ sym (many_more rules codes n);
      few_squeezes = omega (arith, i.few_squeezes);
      counts = e.counts;
      firsts = e.firsts;
      total = e.total;
      few = e.few;
      steps = omega (arith, i.steps, e.step);
      later = omega (arith, i.later, e.later);
    }

pub returns-in_err-squeezes-clause-wrote : goal.returns-in_err-squeezes-clause-wrote
returns-in_err-squeezes-clause-wrote g c =
    let rules = c.args.game.now.rules.now in
    let codes = g.E.Entries.codes c.args.entries.now in
    let n = c.loop-number.number in
    let old = sink_of g.O.Sink c.args.out.now in
    let new = sink_of g.O.Sink c.look.new.out in
    let many : ℕ = length (squeezes rules.groups codes) in
    let size_is : c.size-number-end.result ≡ size_of rules.groups = c.size-number-end.ensures.size
    ∙ ap size_of c.args.game.now.fits in
    let low : n < size_of rules.groups = omega arith in
    holds_of_known_fault (λ r. WritesSome r (lines_below rules codes (size_of rules.groups)) many
    old new)
    c.in_err-squeezes.field-0.0 c.from_residual.result c.from_residual.ensures.1
    (stopped_more rules codes n (size_of rules.groups) old (sink_of g.O.Sink c.loop-number.out) new
    low c.loop-number.invariant.took c.in_err-squeezes.field-0.0
    (one_of (squeeze_at rules.groups codes n)) c.in_err-squeezes.ensures.wrote many)

pub returns-clause-wrote : goal.returns-clause-wrote
returns-clause-wrote g c =
    let rules = c.args.game.now.rules.now in
    let codes = g.E.Entries.codes c.args.entries.now in
    let size_is : c.size-number-end.result ≡ size_of rules.groups = c.size-number-end.ensures.size
    ∙ ap size_of c.args.game.now.fits in
    let end : c.loop-number.number ≡ size_of rules.groups = omega arith in (
      c.loop-number.invariant.squeezes
          ∙ ap (λ (k : ℕ). length (squeezes_below rules.groups codes k)) end,
      subst (λ (k : ℕ). TookText (lines_below rules codes k) (sink_of g.O.Sink c.args.out.now)
          (sink_of g.O.Sink c.loop-number.out)) end c.loop-number.invariant.took,
    )

pub returns-clause-counts : goal.returns-clause-counts
returns-clause-counts g c =
    let rules = c.args.game.now.rules.now in
    let value = g.B.ExitBook.value_at c.args.game.now.book.now in
    let size_is : c.size-number-end.result ≡ size_of rules.groups = c.size-number-end.ensures.size
    ∙ ap size_of c.args.game.now.fits in
    let end : c.loop-number.number ≡ size_of rules.groups = omega arith in
    subst (λ (k : ℕ). Counts c.loop-number.census.classes.entries (exits_below rules value k)) end
    c.loop-number.invariant.counts

pub returns-clause-firsts : goal.returns-clause-firsts
returns-clause-firsts g c =
    let rules = c.args.game.now.rules.now in
    let value = g.B.ExitBook.value_at c.args.game.now.book.now in
    let size_is : c.size-number-end.result ≡ size_of rules.groups = c.size-number-end.ensures.size
    ∙ ap size_of c.args.game.now.fits in
    let end : c.loop-number.number ≡ size_of rules.groups = omega arith in
    subst (λ (k : ℕ). KeepsFirsts c.loop-number.census.classes.entries
    c.loop-number.census.firsts.items (positions_below rules value k)) end
    c.loop-number.invariant.firsts

pub returns-clause-total : goal.returns-clause-total
returns-clause-total g c =
    let rules = c.args.game.now.rules.now in
    let value = g.B.ExitBook.value_at c.args.game.now.book.now in
    let size_is : c.size-number-end.result ≡ size_of rules.groups = c.size-number-end.ensures.size
    ∙ ap size_of c.args.game.now.fits in
    let end : c.loop-number.number ≡ size_of rules.groups = omega arith in
    c.loop-number.invariant.total ∙ ap (λ (k : ℕ). length (exits_below rules value k)) end
