use Rattle.std.proofs.Common.{◌∙◌, ◌+◌, ℕ, List, ap, sym, subst, length, get_or, arith}
use Rattle.std.proofs.lemmas.List.{length_push}
use Rattle.frz_premises.specs.declared.basis.Basis.{Basis}
use Rattle.frz_premises.specs.declared.trial.Trial.{Trial}
use Rattle.frz_premises.specs.Bases.{basis_of}
use Rattle.frz_premises.specs.Deciding.{decided_by}
use Rattle.frz_premises.specs.Trials.{IsTried}
use Rattle.frz_premises.specs.WaysOut.{outside_of}
use Rattle.frz_premises.proofs.Trying.{all_based, based_more}
use Rattle.frz_premises.proofs.premises.bases.Goals as goal

pub loop-trial-preserved : goal.loop-trial-preserved
loop-trial-preserved c =
    let items = c.in_ok-push.ensures.items in
    let old = c.loop-trial.bases.items in
    let i = c.loop-trial.trial-index in
    let b = c.basis.result in
    let inv = c.loop-trial.invariant in
    record {
      many = ap length items ∙ length_push old b ∙ ap (λ (n : ℕ). n + 1) inv.many;
      each = λ leans rules links tried k line basis l.
          (let this = subst (λ (t : Trial). IsTried links (get_or rules.exits i line)
          (decided_by leans rules links i (outside_of rules.groups)) t) (sym c.trial-item.is)
          (tried.each i line c.trial-item.result c.loop-trial-test.true) in
          ap (λ (xs : List Basis). get_or xs k basis) items
          ∙ based_more (λ j. basis_of leans rules links j (get_or rules.exits j line)) old i b inv.many
          (λ j x low. inv.each leans rules links tried j line x low)
          (c.basis.ensures links (get_or rules.exits i line)
          (decided_by leans rules links i (outside_of rules.groups)) this) k basis l);
    }

pub returns : goal.returns
returns c leans rules links tried =
    let inv = c.loop-trial.invariant in
    let many = inv.many in
    let long = tried.many in
    all_based leans rules links c.loop-trial.bases.items (omega (arith, many, long))
    (λ k line x l. inv.each leans rules links tried k line x (omega (arith, l, long)))
