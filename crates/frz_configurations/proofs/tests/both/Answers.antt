use Rattle.std.proofs.Common.{sym, ◌∙◌, subst}
use Rattle.frz_board.specs.declared.man.Colour.TheVariants.{White, Black}
use Rattle.frz_sets.specs.Views.{RuleLines}
use Rattle.frz_configurations.specs.Joined.{IsKingSquare}
use Rattle.frz_configurations.proofs.KingTests.{passes_square}
use Rattle.frz_configurations.proofs.tests.both.Goals as goal

pub number-requires-clause-white : goal.number-requires-clause-white
number-requires-clause-white c =
    subst (λ (r : RuleLines). IsKingSquare r.groups White c.args.white) (sym c.requires.same)
    (passes_square c.args.configurations.now.rules.now.groups White c.args.white
    (sym c.is_king_square.ensures ∙ c.if-is_king_square.true))

pub number-requires-clause-black : goal.number-requires-clause-black
number-requires-clause-black c =
    subst (λ (r : RuleLines). IsKingSquare r.groups Black c.args.black) (sym c.requires.same)
    (passes_square c.args.configurations.now.rules.now.groups Black c.args.black
    (sym c.is_king_square-then-is_king_square.ensures ∙ c.if-is_king_square-2.true))

pub number-requires-then-is_king_square-2-clause-white :
    goal.number-requires-then-is_king_square-2-clause-white
number-requires-then-is_king_square-2-clause-white c =
    passes_square c.args.configurations.now.rules.now.groups White c.args.white
    (sym c.is_king_square.ensures ∙ c.if-is_king_square.true)

pub number-requires-then-is_king_square-2-clause-black :
    goal.number-requires-then-is_king_square-2-clause-black
number-requires-then-is_king_square-2-clause-black c =
    passes_square c.args.configurations.now.rules.now.groups Black c.args.black
    (sym c.is_king_square-then-is_king_square.ensures ∙ c.if-is_king_square-2.true)
