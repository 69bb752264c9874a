use Rattle.std.proofs.Common.{subst, ◌≡◌, ◌∙◌}
use Rattle.frz_board.specs.declared.man.Colour.TheVariants.{White, Black}
use Rattle.frz_sets.specs.Views.{RuleLines}
use Rattle.frz_game.specs.Bounds.{IsTableOf}
use Rattle.frz_plane_chess.proofs.solving.solve_planes.Goals as goal

pub returns-clause-white : goal.returns-clause-white
returns-clause-white g c =
    let game = c.args.game.now in
    let planes = c.in_ok-planes.planes in
    let codes = c.in_ok-white.white.items in
    let rules : planes.configurations.now.rules.now ≡ game.rules.now =
    c.in_ok-planes.ensures.same.0 ∙ c.in_ok-configurations.ensures in
    subst (λ (r : RuleLines). IsTableOf r (g.B.ExitBook.value_at game.book.now) White codes) rules
    (subst
    (λ b. IsTableOf planes.configurations.now.rules.now (g.B.ExitBook.value_at b) White codes)
    c.in_ok-planes.ensures.same.1 c.in_ok-white.ensures)

pub returns-clause-black : goal.returns-clause-black
returns-clause-black g c =
    let game = c.args.game.now in
    let planes = c.in_ok-planes.planes in
    let codes = c.in_ok-black.black.items in
    let rules : planes.configurations.now.rules.now ≡ game.rules.now =
    c.in_ok-planes.ensures.same.0 ∙ c.in_ok-configurations.ensures in
    subst (λ (r : RuleLines). IsTableOf r (g.B.ExitBook.value_at game.book.now) Black codes) rules
    (subst
    (λ b. IsTableOf planes.configurations.now.rules.now (g.B.ExitBook.value_at b) Black codes)
    c.in_ok-planes.ensures.same.1 c.in_ok-black.ensures)
