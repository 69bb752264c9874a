use Rattle.std.proofs.Common.{◌≡◌, refl, sym, subst, Some, None}
use Rattle.std.proofs.lemmas.Result.{err_from_is_err_and}
use Rattle.frz_board.specs.Boards.{Board}
use Rattle.frz_index.specs.Members.{HasNumber}
use Rattle.frz_index.specs.Membership.{position_at}
use Rattle.frz_store.specs.Told.{sink_of}
use Rattle.frz_report.proofs.Looking.{counts_same, failed_here, firsts_same, nothing_here, position_here, total_same, wanted_here, written_here}
use Rattle.frz_report.proofs.walk.look.Given.{Over}
use Rattle.frz_report.proofs.walk.look.Goals as goal
use Rattle.frz_report.proofs.walk.look.Goals.{In_default, In-Some}

-- the number is broken
none : (g : Over) (c : In_default g)
    → position_at c.args.game.now.rules.now.groups c.args.number ≡ None
none g c =
    position_here c.args.game.now.set.now c.args.game.now.rules.now.groups c.args.number None
    c.args.game.now.fits c.in_default.ensures.function

-- its position is there
there : (g : Over) (c : In-Some g)
    → position_at c.args.game.now.rules.now.groups c.args.number ≡ Some c.in-Some.p
there g c =
    position_here c.args.game.now.set.now c.args.game.now.rules.now.groups c.args.number
    (Some c.in-Some.p) c.args.game.now.fits c.in-Some.ensures.function

pub returns-in_default-clause-wrote : goal.returns-in_default-clause-wrote
returns-in_default-clause-wrote g c =
    nothing_here c.args.game.now.rules.now.groups (g.E.Entries.codes c.args.entries.now)
    c.args.number (sink_of g.O.Sink c.args.out.now)
    (none g (goal.at.returns-in_default-clause-wrote g c).In_default)

pub returns-in_default-clause-counts : goal.returns-in_default-clause-counts
returns-in_default-clause-counts g c =
    counts_same c.args.game.now.rules.now (g.B.ExitBook.value_at c.args.game.now.book.now)
    c.args.number (none g (goal.at.returns-in_default-clause-counts g c).In_default)
    c.args.census.now.classes.entries c.requires.counts

pub returns-in_default-clause-firsts : goal.returns-in_default-clause-firsts
returns-in_default-clause-firsts g c =
    firsts_same c.args.game.now.rules.now (g.B.ExitBook.value_at c.args.game.now.book.now)
    c.args.number (none g (goal.at.returns-in_default-clause-firsts g c).In_default)
    c.args.census.now.classes.entries c.args.census.now.firsts.items c.requires.firsts

pub returns-in_default-clause-total : goal.returns-in_default-clause-total
returns-in_default-clause-total g c =
    total_same c.args.game.now.rules.now (g.B.ExitBook.value_at c.args.game.now.book.now)
    c.args.number (none g (goal.at.returns-in_default-clause-total g c).In_default)
    c.args.census.now.total c.requires.total

pub count_exits-requires-clause-position : goal.count_exits-requires-clause-position
count_exits-requires-clause-position g c =
    there g (goal.at.count_exits-requires-clause-position g c).In-Some

pub returns-in_err-count_exits-clause-wrote : goal.returns-in_err-count_exits-clause-wrote
returns-in_err-count_exits-clause-wrote g c =
    let p = err_from_is_err_and c.from_residual.result c.from_residual.ensures.1 in
    rw (p.1, p.2)
    (wanted_here c.args.game.now.rules.now.groups (g.E.Entries.codes c.args.entries.now)
    c.args.number (sink_of g.O.Sink c.args.out.now))

pub write_if_squeeze-requires-clause-position : goal.write_if_squeeze-requires-clause-position
write_if_squeeze-requires-clause-position g c =
    subst (λ (p : Board). HasNumber c.args.game.now.set.now c.args.number p)
    (sym c.as_position.ensures) ((c.in-Some.ensures.exact c.in-Some.p).0 refl)

pub returns-in_err-squeezes-clause-wrote : goal.returns-in_err-squeezes-clause-wrote
returns-in_err-squeezes-clause-wrote g c =
    let failed = rw (c.args.game.now.fits, c.as_position.ensures)
    at c.in_err-squeezes.ensures.wrote.failed in
    let p = err_from_is_err_and c.from_residual-in_err-squeezes.result
    c.from_residual-in_err-squeezes.ensures.1 in
    rw (p.1, p.2)
    (failed_here _ (g.E.Entries.codes c.args.entries.now) c.args.number c.in-Some.p
    (there g (goal.at.returns-in_err-squeezes-clause-wrote g c).In-Some) _ _ failed)

pub returns-clause-wrote : goal.returns-clause-wrote
returns-clause-wrote g c =
    let took = rw (c.args.game.now.fits, c.as_position.ensures)
    at c.in_ok-squeezes.ensures.wrote.ok in
    let many = rw (c.args.game.now.fits, c.as_position.ensures) at c.in_ok-squeezes.ensures.many in
    written_here _ (g.E.Entries.codes c.args.entries.now) c.args.number c.in-Some.p
    (there g (goal.at.returns-clause-wrote g c).In-Some) _ _ c.in_ok-squeezes.squeezes many took
