use Rattle.std.proofs.Common.{◌≡◌, ◌<◌, length, ◌∙◌, ap, arith, get_or, []}
use Rattle.std.proofs.lemmas.List.{get_or_default}
use Rattle.frz_combinations.specs.Binomials.{choose}
use Rattle.frz_combinations.proofs.Pascals.{choose-one}
use Rattle.frz_combinations.proofs.Rows.{row_at}
use Rattle.frz_combinations.proofs.pascal.Triangle.binomial.Goals as goal

pub returns-then-k-eq1 : goal.returns-then-k-eq1
returns-then-k-eq1 c =
    let one = choose-one c.args.n in
    let same : choose c.args.n c.args.k ≡ c.args.n = ap (choose c.args.n) c.if-k-eq1.true ∙ one in
    omega (arith, same)

pub returns : goal.returns
returns c =
    let within : c.args.n < length c.self.inside.rows.items = omega
    (arith, c.requires.n, c.self.view_is) in
    ap (λ row. get_or row c.args.k 0)
    (c.index.ensures ∙ get_or_default c.self.inside.rows.items c.args.n c.index.result.now []
    within)
    ∙ (row_at c.self.inside.rows.items c.args.n c.self.invariant within).numbers c.args.k
    (omega (arith, c.requires.k))
