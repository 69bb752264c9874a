use Rattle.std.proofs.Common.{◌∙◌, ◌+◌, [], ℕ, List, ap, sym, subst, length, get_or, arith}
use Rattle.std.proofs.lemmas.List.{length_push}
use Rattle.frz_sets.specs.Views.{ExitLine}
use Rattle.frz_premises.specs.declared.trial.Trial.{Trial}
use Rattle.frz_premises.specs.Trials.{IsTried}
use Rattle.frz_premises.proofs.Trying.{all_begun, begun_more}
use Rattle.frz_premises.proofs.premises.begin.Goals as goal

pub loop-line-preserved : goal.loop-line-preserved
loop-line-preserved c =
    let items = c.in_ok-push.ensures.items in
    let old = c.loop-line.trials.items in
    let i = c.loop-line.line-index in
    let t = c.in_ok-trial.trial in
    let inv = c.loop-line.invariant in
    record {
      many = ap length items ∙ length_push old t ∙ ap (λ (n : ℕ). n + 1) inv.many;
      each = λ links e k line trial l.
          subst (λ (xs : List Trial). IsTried links
          (get_or c.args.lines.now k line) [] (get_or xs k trial)) (sym items)
          (begun_more (λ line t. IsTried links line [] t) c.args.lines.now old i
          c.line-item.result t (omega arith) c.line-item.is inv.many (inv.each links e)
          (c.in_ok-trial.ensures links c.line-item.result
          (sym (ap (λ (l : ExitLine). l.value) c.line.view_is)) e) k line trial l);
    }

pub returns : goal.returns
returns c leans rules links same_lines e =
    let inv = c.loop-line.invariant in
    let many = inv.many in
    all_begun c.args.lines.now leans rules links c.loop-line.trials.items same_lines (omega arith) (λ k line trial l. inv.each links e k line trial (omega arith))
