use Rattle.std.proofs.Common.{◌∙◌, ◌&&◌, Option, ap, sym}
use Rattle.frz_board.specs.declared.man.Man.{Man}
use Rattle.frz_board.specs.Attacks.{man_reaches, reaches}
use Rattle.frz_squares.proofs.Lemmas.{has-zero}
use Rattle.frz_bits.proofs.Attacked.{all_there}
use Rattle.frz_bits.proofs.bitboards.Bitboards.attacked_from.Goals as goal

pub returns-in-None : goal.returns-in-None
returns-in-None c b l =
    has-zero b
    ∙ ap (λ (o : Option Man). man_reaches c.args.self.now o c.args.a b)
    (sym (sym c.man.ensures ∙ c.in-None.is))

pub returns-in-Some : goal.returns-in-Some
returns-in-Some c b l =
    let p = c.args.self.now in
    let man = c.in-Some.man in
    c.reached.ensures b l
    ∙ ap (λ x. x && reaches p man.colour man.kind c.args.a b) (all_there b l)
    ∙ ap (λ (o : Option Man). man_reaches p o c.args.a b) (sym (sym c.man.ensures ∙ c.in-Some.is))
