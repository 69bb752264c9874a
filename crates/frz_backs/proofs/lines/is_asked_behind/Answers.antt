use Rattle.std.proofs.Common.{◌≡◌, ◌∙◌, ap, refl, sym, map, not, Bool, true, false, ◌&&◌, List}
use Rattle.frz_sets.specs.Views.{ExitLine, RuleLines}
use Rattle.frz_exits.specs.Books.{first_value, value_by}
use Rattle.frz_exits.specs.Values.{is_unknown}
use Rattle.frz_backs.specs.FileOn.{loaded_back}
use Rattle.frz_backs.specs.Values.{is_behind}
use Rattle.frz_backs.proofs.DecidingLines.{behind_loaded}
use Rattle.frz_backs.proofs.lines.is_asked_behind.Goals as goal

after_true : (a b : Bool) → true ≡ a → b ≡ (a && b)
after_true true b e = refl
after_true false b e = absurd (cc)

pub returns-then-is_unknown : goal.returns-then-is_unknown
returns-then-is_unknown c =
    let rules = c.args.rules.now in
    let q = c.args.q.now in
    let backs = c.args.backs.now in
    let unknown : true ≡ is_unknown (value_by rules q) =
    sym c.if-is_unknown.true ∙ (c.is_unknown.ensures ∙ ap is_unknown (c.value_of.ensures
    ∙ ap (λ (lines : List ExitLine). first_value lines q) (c.deref.ensures.value
    ∙ ap (λ (r : RuleLines). r.exits) c.rules.view_is))) in
    ap not (c.is_behind.ensures ∙ behind_loaded backs q)
    ∙ after_true (is_unknown (value_by rules q)) (not (is_behind (map loaded_back backs) q)) unknown
