use Rattle.std.proofs.Common.{◌∙◌, ap, sym}
use Rattle.frz_fide.specs.Legal.{after}
use Rattle.frz_game.specs.Numbers.{number_of}
use Rattle.frz_game.proofs.Graph.{next_inside}
use Rattle.frz_index.proofs.Lemmas.{number_found}
use Rattle.frz_game.proofs.game.Game.next_by_taking.Goals as goal

pub returns-in-Some : goal.returns-in-Some
returns-in-Some g c =
    let groups = c.args.self.now.rules.now.groups in
    let q = after c.args.p.now c.args.m in
    sym (next_inside groups q (g.B.ExitBook.value_at c.args.self.now.book.now q) c.in-Some.n
    (ap (λ gs. number_of gs q) (sym c.args.self.now.fits)
    ∙ number_found c.args.self.now.set.now q c.in-Some.n c.in-Some.ensures.number))
