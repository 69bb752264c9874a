use Rattle.std.proofs.Common.{◌≡◌, ◌∙◌, ap, subst, Ok, arith}
use Rattle.std.proofs.lemmas.Result.{IfOk-weaker}
use Rattle.frz_asks.specs.Runs.{end_of, Run}
use Rattle.frz_rules.specs.Text.{rules_of}
use Rattle.frz_sets.specs.Sets.{size_of}
use Rattle.frz_store.specs.Told.{store_of}
use Rattle.frz_table.specs.Asking.{loading}
use Rattle.frz_table.specs.Faults.{stop_of}
use Rattle.frz_table.specs.Layout.{magic_of}
use Rattle.frz_table.specs.Numbers.{AreBytes}
use Rattle.frz_table.specs.Tables.{Table, table_size}
use Rattle.frz_table.proofs.CodesOver.{black_by, keep_by, load_asked, load_calls, loaded_as, outside_by, sizes_by, white_by}
use Rattle.frz_table.proofs.KeptFiles.{magic_bytes, magic_long, read_short}
use Rattle.frz_table.proofs.table.TableFile.load.Given.{Over}
use Rattle.frz_table.proofs.table.TableFile.load.Goals as goal
use Rattle.frz_table.proofs.table.TableFile.load.Goals.{After-load_codes}

run : (g : Over) (c : After-load_codes g)
    → Run (loading c.args.self.now.name c.args.self.now.text (table_size c.args.self.now))
    (end_of stop_of (λ lists. (lists.0.items, lists.1.items)) c.load_codes.result)
    (store_of g.S.Store c.args.store.now) (store_of g.S.Store c.load_codes.new.store)
run g c =
    loaded_as (λ lists. lists.0.items) (λ lists. lists.1.items) c.load_codes.result _ _ _ _ _ _ _ _
    (c.deref.ensures ∙ ap (λ (t : Table). t.name) c.self.view_is)
    (c.deref-2.ensures.value ∙ ap (λ (t : Table). t.text) c.self.view_is)
    (c.size.ensures.size ∙ (ap size_of c.self.invariant.1 ∙ ap table_size c.self.view_is))
    c.load_codes.ensures.run

pub returns-clause-white : goal.returns-clause-white
returns-clause-white g c =
    white_by c.args.self.now.name c.args.self.now.text (table_size c.args.self.now)
    (λ lists. lists.0.items) (λ lists. lists.1.items) _ _ c.load_codes.result
    (run g (goal.at.returns-clause-white g c).After-load_codes)

pub returns-clause-black : goal.returns-clause-black
returns-clause-black g c =
    black_by c.args.self.now.name c.args.self.now.text (table_size c.args.self.now)
    (λ lists. lists.0.items) (λ lists. lists.1.items) _ _ c.load_codes.result
    (run g (goal.at.returns-clause-black g c).After-load_codes)

pub returns-clause-asked : goal.returns-clause-asked
returns-clause-asked g c =
    load_asked c.args.self.now.name c.args.self.now.text (table_size c.args.self.now)
    (λ lists. lists.0.items) (λ lists. lists.1.items) _ _ c.load_codes.result
    (run g (goal.at.returns-clause-asked g c).After-load_codes)

pub returns-clause-calls : goal.returns-clause-calls
returns-clause-calls g c =
    load_calls c.args.self.now.name c.args.self.now.text (table_size c.args.self.now)
    (λ lists. lists.0.items) (λ lists. lists.1.items) _ _ c.load_codes.result
    (run g (goal.at.returns-clause-calls g c).After-load_codes)

pub returns-clause-outside : goal.returns-clause-outside
returns-clause-outside g c =
    outside_by c.args.self.now.name c.args.self.now.text (table_size c.args.self.now)
    (λ lists. lists.0.items) (λ lists. lists.1.items) _ _ c.load_codes.result
    (run g (goal.at.returns-clause-outside g c).After-load_codes)

pub returns-clause-white_size : goal.returns-clause-white_size
returns-clause-white_size g c =
    IfOk-weaker c.load_codes.result _ _ (λ lists both. both.0)
    (sizes_by c.args.self.now.name c.args.self.now.text (table_size c.args.self.now)
    (λ lists. lists.0.items) (λ lists. lists.1.items) _ _ c.load_codes.result
    (run g (goal.at.returns-clause-white_size g c).After-load_codes))

pub returns-clause-black_size : goal.returns-clause-black_size
returns-clause-black_size g c =
    IfOk-weaker c.load_codes.result _ _ (λ lists both. both.1)
    (sizes_by c.args.self.now.name c.args.self.now.text (table_size c.args.self.now)
    (λ lists. lists.0.items) (λ lists. lists.1.items) _ _ c.load_codes.result
    (run g (goal.at.returns-clause-black_size g c).After-load_codes))

pub returns-clause-may_keep : goal.returns-clause-may_keep
returns-clause-may_keep g c =
    let table : Table = c.args.self.now in
    let sized = c.size.ensures.size
    ∙ (ap size_of c.self.invariant.1 ∙ ap table_size c.self.view_is) in
    let are : AreBytes table.text = subst (λ (t : Table). AreBytes t.text) c.self.view_is
    c.self.invariant.0.bytes in
    let read : rules_of table.text ≡ Ok table.rules = subst
    (λ (t : Table). rules_of t.text ≡ Ok t.rules) c.self.view_is c.self.invariant.0.read in
    keep_by table.name table.text (table_size table) (λ lists. lists.0.items) (λ lists. lists.1.items) _ _
    (magic_of table.kind) c.load_codes.result
    (run g (goal.at.returns-clause-may_keep g c).After-load_codes)
    c.load_codes.ensures.white_fit c.load_codes.ensures.black_fit
    (record {
      eight = magic_long table.kind;
      magic_bytes = magic_bytes table.kind;
      text_bytes = are;
      short = read_short table.text table.rules read;
      fits = omega (arith, sized);
    }) c.requires
