use Rattle.std.proofs.Common.{◌∙◌, ◌++◌, ◌∷◌, [], ℕ, List, add-one, ap, append_assoc, append-nil, arith, get_or, sym, take}
use Rattle.std.proofs.lemmas.List.{take_all}
use Rattle.frz_commands_premises.specs.declared.line.Line.{Line}
use Rattle.frz_commands_premises.specs.declared.line.Line.TheVariants.{Exit}
use Rattle.frz_commands_premises.specs.PremiseLines.{lines_by}
use Rattle.frz_commands_premises.proofs.Adding.{line_more, many_lines}
use Rattle.frz_commands_premises.proofs.lines.add_lines.Goals as goal

pub loop-i-init : goal.loop-i-init
loop-i-init c = sym (append-nil c.args.lines.now.items)

pub loop-i-preserved : goal.loop-i-preserved
loop-i-preserved c =
    let i = c.loop-i.i in
    let old = c.args.lines.now.items in
    let all = lines_by c.args.numbers.now c.args.bases.now in
    let n = get_or c.args.numbers.now i 0 in
    let b = c.index-bases-i.result in
    let many = c.requires in
    c.in_ok-push.ensures.items
    ∙ ap (λ (l : List Line). l ++ Exit n b ∷ []) c.loop-i.invariant
    ∙ append_assoc old (take i all) (Exit n b ∷ [])
    ∙ ap (λ (l : List Line). old ++ l)
    (sym (ap (λ (k : ℕ). take k all) (add-one i)
    ∙ line_more c.args.numbers.now c.args.bases.now i 0 b c.loop-i-test.true
    (omega (arith, many)) c.index-bases-i.is))

pub returns : goal.returns
returns c =
    let many = many_lines c.args.numbers.now c.args.bases.now c.requires in
    c.loop-i.invariant
    ∙ ap (λ (l : List Line). c.args.lines.now.items ++ l)
    (take_all c.loop-i.i (lines_by c.args.numbers.now c.args.bases.now) (omega (arith, many)))
