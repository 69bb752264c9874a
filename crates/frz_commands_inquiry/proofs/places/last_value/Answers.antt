use Rattle.std.proofs.Common.{◌≡◌, ◌∙◌, [], ap, sym, List, Bool, true, if◌then◌else◌}
use Rattle.std.specs.Prelude.{map}
use Rattle.frz_board.specs.Boards.{Board}
use Rattle.frz_sets.specs.Views.{RuleLines}
use Rattle.frz_sets.specs.declared.exit.Value.{Value}
use Rattle.frz_sets.specs.declared.exit.Value.TheVariants.{Unknown}
use Rattle.frz_exits.specs.Books.{value_by}
use Rattle.frz_chain.specs.Books.{or_else}
use Rattle.frz_atlas.specs.BackTable.{BackTable}
use Rattle.frz_atlas.specs.Behind.{value_behind}
use Rattle.frz_atlas.specs.FileOn.{loaded_back}
use Rattle.frz_atlas.specs.Loaded.{leans_as}
use Rattle.frz_atlas.specs.Values.{atlas_value}
use Rattle.frz_atlas.proofs.Lemmas.{lines_alone}
use Rattle.frz_commands_inquiry.proofs.places.last_value.Goals as goal

-- with no table behind them the exit lines say nothing but by those behind all tables
by_last_lines : (r s : RuleLines) (backs : List BackTable) (q : Board) (leans : Bool) (v : Value)
    → v ≡ atlas_value r (map loaded_back backs) q → r ≡ s → backs ≡ []
    → value_by s q ≡ Unknown → leans ≡ true → v ≡ (if leans then value_behind s q else Unknown)
by_last_lines r s backs q leans v is rules none unknown leaning =
    is ∙ ap (λ (x : RuleLines). atlas_value x (map loaded_back backs) q) rules
    ∙ ap (λ (l : List BackTable). atlas_value s (map loaded_back l) q) none
    ∙ lines_alone s q
    ∙ ap (λ (w : Value). or_else w (value_behind s q)) unknown
    ∙ sym (ap (λ (b : Bool). if b then value_behind s q else Unknown) leaning)

pub returns-in-true : goal.returns-in-true
returns-in-true c =
    let table = c.args.own.now.table in
    by_last_lines c.new.result.rules.now table.rules c.new.result.backs.now c.args.q.now
    (leans_as table.kind) c.value_on.result c.value_on.ensures
    (c.new.ensures.rules ∙ c.rules.ensures.rules) c.new.ensures.backs c.requires.unknown
    (sym c.in-true.ensures)
