use Rattle.std.proofs.Common.{◌≡◌, Bool, true, false, ◌&&◌, ◌||◌, ap, refl, sym, ◌∙◌, get_or}
use Rattle.std.specs.Prelude.{◌==◌, take}
use Rattle.std.specs.List.{list_any}
use Rattle.std.proofs.lemmas.List.Folds.{list_any_more}
use Rattle.frz_unmove.specs.Gathering.{may_have_stood}
use Rattle.frz_unmove.proofs.targets.earlier_targets.Goals as goal

either : (a b m : Bool) → ((a && m) || (b && m)) ≡ ((a || b) && m)
either true true true = refl
either true true false = refl
either true false true = refl
either true false false = refl
either false b m = refl

pub loop-target-preserved : goal.loop-target-preserved
loop-target-preserved c t low =
    let items = c.targets-target-items.result.now in
    let i = c.loop-target.target-index in
    let seen = list_any (λ y. t == y) (take i items) in
    let m = may_have_stood c.args.q.now c.args.to t in
    c.with_target-word.ensures t low
    ∙ ap (λ b. b || (t == get_or items i 0 && m)) (c.loop-target.invariant t low)
    ∙ either seen (t == get_or items i 0) m
    ∙ ap (λ b. b && m) (sym (list_any_more (λ y. t == y) items i 0 c.loop-target-test.true))
