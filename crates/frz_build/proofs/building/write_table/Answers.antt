use Rattle.std.proofs.Common.{ap, ◌∙◌, ℕ, List, ◌++◌, Result, Err}
use Rattle.std.proofs.lemmas.Result.{err_from_is_err_and}
use Rattle.frz_board.specs.declared.man.Colour.TheVariants.{Black}
use Rattle.frz_sets.specs.Sets.{size_of}
use Rattle.frz_store.specs.Told.{StoreTold, store_of}
use Rattle.frz_store.specs.Writes.{Written}
use Rattle.frz_store.specs.declared.outside.StoreFault.{StoreFault}
use Rattle.frz_table.specs.Layout.{header_of, magic_of}
use Rattle.frz_table.specs.Numbers.{number_bytes}
use Rattle.frz_build.specs.Building.{Builds}
use Rattle.frz_build.proofs.Built.{Tables, builds, some_tables}
use Rattle.frz_build.proofs.Parts.{all_written, black_failed, header_refused, white_failed}
use Rattle.frz_build.proofs.building.write_table.Given.{Over}
use Rattle.frz_build.proofs.building.write_table.Goals as goal
use Rattle.frz_build.proofs.building.write_table.Goals.{After-begin_table, After-write_black}

abbrev header : (g : Over) (c : After-begin_table g) → List ℕ
header g c =
    header_of (magic_of c.args.file.now.kind) c.args.file.now.text.now c.size-size.result

-- what was written of the file of these tables
built : (g : Over) (c : After-begin_table g)
    (t : Tables c.args.game.now.rules.now (g.B.ExitBook.value_at c.args.game.now.book.now))
    (result : Result ℕ StoreFault) (new : StoreTold)
    → Written c.args.file.now.name.now
    (header g c ++ (number_bytes t.white ++ number_bytes t.black)) result
    (store_of g.S.Store c.args.store.now) new
    → Builds (magic_of c.args.file.now.kind) c.args.file.now.text.now c.args.game.now.rules.now
    (g.B.ExitBook.value_at c.args.game.now.book.now) c.args.file.now.name.now result
    (store_of g.S.Store c.args.store.now) new
built g c t result new written =
    builds _ _ _ _ _ c.size-size.result result _ new
    (c.size-size.ensures.size ∙ ap size_of c.args.game.now.fits) t written

-- the tables that both calls left in the workshop
abbrev both : (g : Over) (c : After-write_black g)
    → Tables c.args.game.now.rules.now (g.B.ExitBook.value_at c.args.game.now.book.now)
both g c = record {
  white = c.write_white.new.sides.entries;
  black = c.write_black.new.sides.entries;
  white_is = c.write_white.ensures.table;
  black_is = c.write_black.ensures.table;
}

abbrev failed_as : StoreFault → Result ℕ StoreFault
failed_as f = Err f

pub returns-in_err-begin_table-clause-built : goal.returns-in_err-begin_table-clause-built
returns-in_err-begin_table-clause-built g c =
    let p = err_from_is_err_and c.from_residual.result c.from_residual.ensures.1 in
    let here = (goal.at.returns-in_err-begin_table-clause-built g c).After-begin_table in
    let rules = c.args.game.now.rules.now in
    let value = g.B.ExitBook.value_at c.args.game.now.book.now in
    let t : Tables rules value =
    some_tables rules value (g.met.B.ExitBook.small c.args.game.now.book.now) in
    built g here t _ _
    (header_refused _ (header g here) (number_bytes t.white) (number_bytes t.black) _
    c.from_residual.result _ _ (p.1 ∙ ap failed_as p.2)
    c.in_err-begin_table.ensures.begun)

pub returns-in_err-write_white-clause-built : goal.returns-in_err-write_white-clause-built
returns-in_err-write_white-clause-built g c =
    let black = c.tables.ensures.there c.args.game.now.rules.now
    (g.B.ExitBook.value_at c.args.game.now.book.now)
    (g.met.B.ExitBook.small c.args.game.now.book.now) Black in
    let p = err_from_is_err_and c.from_residual-in_err-write_white.result
    c.from_residual-in_err-write_white.ensures.1 in
    let here = (goal.at.returns-in_err-write_white-clause-built g c).After-begin_table in
    built g here
    (record {
      white = c.write_white.new.sides.entries;
      black = black.0;
      white_is = c.write_white.ensures.table;
      black_is = black.1;
    })
    _ _
    (white_failed _ (header g here) _ _ _ _ c.in_ok-begin_table.ensures.begun
    c.from_residual-in_err-write_white.result _ _ (p.1 ∙ ap failed_as p.2)
    c.in_err-write_white.ensures.appended)

pub returns-in_err-write_black-clause-built : goal.returns-in_err-write_black-clause-built
returns-in_err-write_black-clause-built g c =
    let here = (goal.at.returns-in_err-write_black-clause-built g c).After-begin_table in
    let p = err_from_is_err_and c.from_residual-in_err-write_black.result
    c.from_residual-in_err-write_black.ensures.1 in
    built g here (both g (goal.at.returns-in_err-write_black-clause-built g c).After-write_black)
    _ _
    (black_failed _ (header g here) _ _ _ _ c.in_ok-begin_table.ensures.begun _ _
    c.in_ok-write_white.ensures.appended
    c.from_residual-in_err-write_black.result _ _ (p.1 ∙ ap failed_as p.2)
    c.in_err-write_black.ensures.appended)

pub returns-clause-built : goal.returns-clause-built
returns-clause-built g c =
    let here = (goal.at.returns-clause-built g c).After-begin_table in
    built g here (both g (goal.at.returns-clause-built g c).After-write_black) _ _
    (all_written _ (header g here) _ _ _ _ c.in_ok-begin_table.ensures.begun _ _
    c.in_ok-write_white.ensures.appended _ _ c.in_ok-write_black.ensures.appended)
