use Rattle.std.proofs.Common.{refl, sym}
use Rattle.frz_premises.proofs.Trying.{new_trial_is_tried}
use Rattle.frz_premises.proofs.trial.Trial.new.Goals as goal

pub returns : goal.returns
returns c links line value e =
    new_trial_is_tried links line _ c.args.tables e (sym value) refl refl refl
    (c.in_ok-vec.ensures.items_if_clones_equal (λ y same. same))
