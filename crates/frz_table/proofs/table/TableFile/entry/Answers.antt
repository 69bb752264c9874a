use Rattle.std.proofs.Common.{◌≡◌, ap, ◌∙◌, arith}
use Rattle.frz_asks.specs.Runs.{end_by, Run}
use Rattle.frz_sets.specs.Sets.{size_of}
use Rattle.frz_store.specs.Told.{store_of}
use Rattle.frz_table.specs.Asking.{coding}
use Rattle.frz_table.specs.Layout.{place_of}
use Rattle.frz_table.specs.Tables.{Table, table_size}
use Rattle.frz_table.proofs.CodesOver.{code_asked, code_by, coded_as}
use Rattle.frz_table.proofs.table.TableFile.entry.Given.{Over}
use Rattle.frz_table.proofs.table.TableFile.entry.Goals as goal
use Rattle.frz_table.proofs.table.TableFile.entry.Goals.{After-read_number}

run : (g : Over) (c : After-read_number g)
    → Run (coding c.args.self.now.name c.args.self.now.text (table_size c.args.self.now) c.args.side c.args.i)
    (end_by (λ n. n) c.read_number.result) (store_of g.S.Store c.args.store.now)
    (store_of g.S.Store c.read_number.new.store)
run g c =
    let table : Table = c.args.self.now in
    let texts = c.deref.ensures.value ∙ ap (λ (t : Table). t.text) c.self.view_is in
    let sized = c.size.ensures.size
    ∙ (ap size_of c.self.invariant.1 ∙ ap table_size c.self.view_is) in
    let at : c.codes_place-place.result ≡ place_of c.args.side table.text (table_size table) =
    c.codes_place-place.ensures ∙ ap (λ t. place_of c.args.side t c.size.result) texts
    ∙ ap (place_of c.args.side table.text) sized in
    coded_as _ table.name table.text _ (table_size table) c.args.i c.args.side c.read_number.result _ _
    (c.deref-2.ensures ∙ ap (λ (t : Table). t.name) c.self.view_is)
    (omega (arith, at, c.from.ensures)) c.read_number.ensures.run

pub returns-clause-run : goal.returns-clause-run
returns-clause-run g c = run g (goal.at.returns-clause-run g c).After-read_number

pub returns-clause-code : goal.returns-clause-code
returns-clause-code g c =
    code_by _ _ _ _ _ _ _ _ c.requires.number (run g (goal.at.returns-clause-code g c).After-read_number)

pub returns-clause-asked : goal.returns-clause-asked
returns-clause-asked g c =
    code_asked _ _ _ _ _ _ _ _ (run g (goal.at.returns-clause-asked g c).After-read_number)
