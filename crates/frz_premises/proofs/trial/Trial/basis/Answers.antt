use Rattle.std.proofs.Common.{◌≡◌, ◌∙◌, false, sym, ap}
use Rattle.std.specs.List.{position_from}
use Rattle.frz_exits.specs.Values.{is_unknown}
use Rattle.frz_premises.proofs.Trying.{basis_by, basis_with}
use Rattle.frz_premises.proofs.trial.Trial.basis.Goals as goal

pub returns : goal.returns
returns c links line qs tried =
    let known : is_unknown line.value ≡ false =
    ap is_unknown (sym tried.value) ∙ (sym c.is_unknown.ensures ∙ c.if-is_unknown.false) in
    c.by_need.ensures
    ∙ basis_by links line qs c.args.self.now c.first_true.result tried c.if-not-self-2.false
    (c.first_true.ensures ∙ ap (position_from (λ said. said) 0) c.deref.ensures.value)
    ∙ basis_with links line qs c.args.self.now tried c.if-not-self.false known
