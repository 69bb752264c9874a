use Rattle.std.proofs.Common.{◌∙◌, ap, sym}
use Rattle.frz_arena.specs.declared.arm.Next.TheVariants.{Outside}
use Rattle.frz_game.specs.Numbers.{number_of}
use Rattle.frz_game.proofs.Graph.{next_inside, next_outside}
use Rattle.frz_game.proofs.game.Game.next_of.Goals as goal

pub returns-in-Some : goal.returns-in-Some
returns-in-Some g c =
    let groups = c.args.self.now.rules.now.groups in
    let q = c.args.q.now in
    sym (next_inside groups q (g.B.ExitBook.value_at c.args.self.now.book.now q) c.in-Some.n
    (sym (c.number.ensures
    ∙ (ap (λ gs. number_of gs c.args.q.now) c.args.self.now.fits)) ∙ c.in-Some.is))

pub returns-in-None : goal.returns-in-None
returns-in-None g c =
    let groups = c.args.self.now.rules.now.groups in
    let value = g.B.ExitBook.value_at c.args.self.now.book.now in
    let q = c.args.q.now in
    ap Outside c.value_on.ensures
    ∙ sym (next_outside groups q (value q)
    (sym (c.number.ensures
    ∙ (ap (λ gs. number_of gs c.args.q.now) c.args.self.now.fits)) ∙ c.in-None.is))
