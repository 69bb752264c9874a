use Rattle.std.proofs.Common.{◌≡◌, ◌∙◌, ◌++◌, ◌∷◌, [], ap, sym, subst, List, map, arith}
use Rattle.frz_board.specs.Boards.{Board}
use Rattle.frz_report.specs.Census.{times}
use Rattle.frz_report.specs.Exits.{class_of}
use Rattle.frz_report.specs.Walks.{IsFirsts}
use Rattle.frz_report.proofs.FirstOnes.{firsts_grow, firsts_stay}
use Rattle.frz_report.proofs.census.Census.keep_first.Goals as goal

pub returns-then-times-gt0-clause-firsts : goal.returns-then-times-gt0-clause-firsts
returns-then-times-gt0-clause-firsts c = λ exits before.
    let is : c.times.result ≡ times (map class_of exits) (class_of c.args.q.now) =
    c.times.ensures (map class_of exits) before.0
    ∙ ap (times (map class_of exits)) c.requires.class in
    let some = c.if-times-gt0.true in
    firsts_stay c.args.self.now.firsts.items exits c.args.q.now before.1 (omega (arith, is, some))

pub returns-in-Ok-clause-firsts : goal.returns-in-Ok-clause-firsts
returns-in-Ok-clause-firsts c = λ exits before.
    let is : c.times.result ≡ times (map class_of exits) (class_of c.args.q.now) =
    c.times.ensures (map class_of exits) before.0
    ∙ ap (times (map class_of exits)) c.requires.class in
    let none = c.if-times-gt0.false in
    subst (λ (l : List Board). IsFirsts l (exits ++ c.args.q.now ∷ [])) (sym c.in-Ok.ensures.items)
    (firsts_grow c.args.self.now.firsts.items exits c.args.q.now before.1
    (omega (arith, is, none)) c.requires.valid)
