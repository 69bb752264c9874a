use Rattle.std.proofs.Common.{◌∙◌, ap, ℕ, List, [], ◌∷◌, ◌++◌, map, take}
use Rattle.frz_sets.specs.Sets.{size_of}
use Rattle.frz_backs.specs.BackTable.{BackTable}
use Rattle.frz_atlas.proofs.Several.{names_next}
use Rattle.frz_atlas.proofs.checking.sizes_of.Goals as goal

pub loop-back-preserved : goal.loop-back-preserved
loop-back-preserved c =
    let size_behind : BackTable → ℕ = λ back. size_of back.table.rules.groups in
    let before : List ℕ = map size_behind (take c.loop-back.back-index c.args.backs.now) in
    c.in_ok-push.ensures.items
    ∙ (ap (λ (l : List ℕ). l ++ (c.size.result ∷ [])) c.loop-back.invariant
    ∙ (ap (λ (n : ℕ). before ++ (n ∷ [])) c.size.ensures
    ∙ names_next size_behind c.args.backs.now c.loop-back.back-index c.back-item.result
    c.loop-back-test.true c.back-item.is))
