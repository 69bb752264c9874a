use Rattle.std.proofs.Common.{ap₂, subst}
use Rattle.frz_board.specs.Boards.{Board}
use Rattle.frz_sets.specs.declared.exit.Value.{Value}
use Rattle.frz_store.specs.Told.{store_of}
use Rattle.frz_table.specs.declared.kind.FileKind.TheVariants.{Chained}
use Rattle.frz_table.specs.Layout.{magic_of}
use Rattle.frz_build.specs.Building.{Builds}
use Rattle.frz_chain.specs.Books.{chain_value}
use Rattle.frz_chain.proofs.building.build_over.Goals as goal

pub returns-clause-built : goal.returns-clause-built
returns-clause-built g c =
    let read = c.args.read.now in
    subst (λ (value : Board → Value). Builds (magic_of Chained) read.text.now read.rules.now value
    c.args.name.now c.build_ruled.result (store_of g.S.Store c.args.store.now)
    (store_of g.S.Store c.build_ruled.new.store))
    (ap₂ chain_value c.behind.ensures.rules c.behind.ensures.back) c.build_ruled.ensures.built
