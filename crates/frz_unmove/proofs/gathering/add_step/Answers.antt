use Rattle.std.proofs.Common.{◌≡◌, ℕ, sym, ap, ◌∙◌}
use Rattle.std.proofs.lemmas.Option.{same_Some}
use Rattle.frz_board.specs.Moving.{Step}
use Rattle.frz_unmove.specs.declared.preds.Pred.{Pred}
use Rattle.frz_unmove.specs.Gathering.{ComesFrom}
use Rattle.frz_unmove.proofs.Names.{named, of_name}
use Rattle.frz_unmove.proofs.Adding.{adds_none, adds_one}
use Rattle.frz_unmove.proofs.StepsBack.{told_before}
use Rattle.frz_unmove.proofs.gathering.add_step.Goals as goal

pub returns-in-Some : goal.returns-in-Some
returns-in-Some c =
    let gs = c.args.set.now in
    let q = c.args.q.now in
    let m = c.args.m in
    let i = c.in-Some.number in
    let y : Pred = record { number = i; mv = m } in
    let step = c.number_by_lines.ensures.step in
    let told = λ (j : ℕ). told_before q m 0 c.args.target.now c.args.ready.now.man
    c.requires.number.member.valid step.from step.to c.requires.quiet gs c.number_by_lines.result
    j (c.number_by_lines.ensures.number j) in
    let h = (told i).0 c.in-Some.is in
    adds_one (ComesFrom gs q m 0 c.args.target.now) c.args.out.now c.push.new.self y c.push.ensures
    (named gs q m 0 c.args.target.now step i h.0 h.1 h.2)
    (λ x k.
    let g = of_name gs q m 0 c.args.target.now x k in
    let t = (told x.number).1 (g.0, g.1, g.2) in
    let n : x.number ≡ i = same_Some x.number i (sym t ∙ c.in-Some.is) in
    let made : ℕ → Step → Pred = λ n s. record { number = n; mv = s } in
    ap (λ n. made n x.mv) n ∙ ap (made i) g.3)

pub returns-in_default : goal.returns-in_default
returns-in_default c =
    let gs = c.args.set.now in
    let q = c.args.q.now in
    let m = c.args.m in
    let step = c.number_by_lines.ensures.step in
    adds_none (ComesFrom gs q m 0 c.args.target.now) c.args.out.now 1
    (λ x k.
    let g = of_name gs q m 0 c.args.target.now x k in
    let told = told_before q m 0 c.args.target.now c.args.ready.now.man
    c.requires.number.member.valid step.from step.to c.requires.quiet gs c.number_by_lines.result
    x.number (c.number_by_lines.ensures.number x.number) in
    c.in_default.not-Some x.number (told.1 (g.0, g.1, g.2)))
