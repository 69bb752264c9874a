use Rattle.std.proofs.Common.{◌≡◌, ◌∙◌, ◌*◌, ◌+◌, ◌/◌, ◌%◌, ◌<◌, List, Option, Some, ap, arith, length, refl, subst, ℕ}
use Rattle.std.specs.List.{slice_get}
use Rattle.std.proofs.lemmas.Option.{slice_get_read}
use Rattle.frz_board.specs.Men.{man_of_cell}
use Rattle.frz_board.specs.declared.man.Man.{Man}
use Rattle.frz_sets.specs.Views.{GroupLine}
use Rattle.frz_index.specs.Shares.{AreShares, IsShareOf}
use Rattle.frz_index.specs.declared.shares.Share.{Share}
use Rattle.frz_index.proofs.across.share.Goals as goal

kept : (gs : List GroupLine) (shares : List (Option Share)) (man : Man) (cell s i : ℕ)
    (o : Option Share) → AreShares gs shares → man_of_cell cell ≡ Some man → s < 64 →
    i ≡ 64 * cell + s → slice_get shares i ≡ Some o →
    IsShareOf gs man s o
kept gs shares man cell s i o h is low at e =
    let same : i / 64 ≡ cell = omega (arith, at, low) in
    let rest : i % 64 ≡ s = omega (arith, at, low) in
    subst (λ n. IsShareOf gs man n o) rest (h.each i man o e (ap man_of_cell same ∙ is))

pub returns : goal.returns
returns c =
    let shares = c.args.plan.now.shares.items in
    let cell = c.cell_of.ensures in
    let number = c.number-number.ensures in
    let low = number.on_board in
    let same = number.number in
    kept c.args.plan.now.groups.items shares c.args.man c.cell_of.result c.args.s c.cell_on.result
    c.index.result.now c.requires.shares_are cell.back (omega (arith, low, same)) c.cell_on.ensures
    (slice_get_read shares (length shares) c.cell_on.result c.index.result.now refl
    (let high = cell.high in let size = c.requires.shares_are.size in
    let at = c.cell_on.ensures in omega (arith, high, size, at, low, same)) c.index.ensures)
