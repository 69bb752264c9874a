-- Rules without an exit line.
use Rattle.std.proofs.Common.{◌≡◌, true, [], List, sym, subst, ap}
use Rattle.frz_board.specs.declared.man.Colour.{Colour}
use Rattle.frz_board.specs.Boards.{Board}
use Rattle.frz_fide.specs.Legal.{after}
use Rattle.frz_sets.specs.declared.exit.Value.{Value}
use Rattle.frz_sets.specs.declared.exit.Value.TheVariants.{Unknown}
use Rattle.frz_sets.specs.Views.{RuleLines, ExitLine}
use Rattle.frz_arena.specs.declared.class.Class.TheVariants.{Good}
use Rattle.frz_arena.specs.Exits.{AllNumbered}
use Rattle.frz_graph.specs.Books.{value_by, first_value}
use Rattle.frz_graph.specs.Values.{class_of, is_numbered}
use Rattle.frz_game.specs.Games.{game_of}
use Rattle.frz_game.specs.Values.{IsTrueValue, AreTrueExits}

-- each value is unknown
each_unknown : (rules : RuleLines) (q : Board) → rules.exits ≡ [] → Unknown ≡ value_by rules q
each_unknown rules q e = sym (ap (λ (lines : List ExitLine). first_value lines q) e)

pub true_exits : (rules : RuleLines) → rules.exits ≡ [] → AreTrueExits rules (value_by rules)
true_exits rules e p m inside legal outside =
    subst (λ (v : Value). IsTrueValue v (after p m)) (each_unknown rules (after p m) e) tt

not_good : (side : Colour) → class_of Unknown side ≡ Good → is_numbered Unknown ≡ true
not_good side g = absurd (cc)

pub numbered : (rules : RuleLines) → rules.exits ≡ [] → (side : Colour) →
    AllNumbered (game_of rules (value_by rules)) side
numbered rules e side q exit =
    subst (λ (v : Value). class_of v side ≡ Good → is_numbered v ≡ true) (each_unknown rules q e)
    (not_good side)
