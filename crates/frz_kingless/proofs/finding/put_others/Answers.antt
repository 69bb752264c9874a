use Rattle.std.proofs.Common.{◌≡◌, ℕ, ◌+◌, ◌/◌, ◌<◌, ◌∙◌, ap, arith, false, get_or, length, sym}
use Rattle.frz_sets.specs.Sets.{radix_of}
use Rattle.frz_sets.specs.Views.{RuleLines}
use Rattle.frz_configurations.specs.Configurations.{has_kings}
use Rattle.frz_index.proofs.Lemmas.{radix_some}
use Rattle.frz_kingless.proofs.OneGroupMore.{IsAt, IsPut, at_index, less_is, put_more, put_passed, put_stop}
use Rattle.frz_kingless.proofs.finding.put_others.Goals.{After-index-group, in-Some+else-not-put_men, in_default}
use Rattle.frz_kingless.proofs.finding.put_others.Goals as goal

-- the group that was read
at_k : (c : After-index-group) →
    IsAt c.args.configurations.now.rules.now.groups c.loop-k.k c.index-group.result.now
at_k c =
    let r = c.args.configurations.now.rules.now in
    let g = c.index-group.result.now in
    let same = ap (λ (x : RuleLines). x.groups) c.rules.view_is in
    at_index r c.loop-k.k g c.requires.sound
    (omega (arith, ap length same, c.len-k-end.ensures, c.loop-k-test.true))
    (c.index-group.ensures ∙ ap (λ xs. get_or xs c.loop-k.k g) same)

-- what was put before it
so_far : (c : After-index-group) →
    IsPut c.args.configurations.now.rules.now.groups c.args.number c.args.p.now c.loop-k.k
    c.loop-k.weight c.loop-k.rest c.loop-k.p
so_far c = record {
  weight_is = c.loop-k.invariant.weight;
  put = c.loop-k.invariant.put;
  free = c.loop-k.invariant.free;
}

-- the groups after it have some numbers
some_after : (c : After-index-group) (radix : ℕ) → has_kings c.index-group.result.now ≡ false →
    radix ≡ radix_of c.index-group.result.now → 0 < c.loop-k.weight / radix
some_after c radix none radix_is =
    let a = at_k c in
    let less = less_is c.args.configurations.now.rules.now.groups c.args.number c.loop-k.k
    c.loop-k.weight c.loop-k.rest c.args.p.now c.loop-k.p (so_far c) c.index-group.result.now a radix
    none radix_is in
    let some = a.some in
    omega (arith, less, some)

pub nonzero_div-weight : goal.nonzero_div-weight
nonzero_div-weight c =
    let a = at_k (goal.at.nonzero_div-weight c).After-index-group in
    let told = c.in-Some.ensures c.index-group.result.now a.at in
    let some = radix_some c.index-group.result.now a.counted in
    omega (arith, told.1, some)

pub nonzero_div-rest : goal.nonzero_div-rest
nonzero_div-rest c =
    let here = (goal.at.nonzero_div-rest c).After-index-group in
    let told = c.in-Some.ensures c.index-group.result.now (at_k here).at in
    some_after here c.in-Some.radix told.0 told.1

pub put_men-requires : goal.put_men-requires
put_men-requires c = (at_k (goal.at.put_men-requires c).After-index-group).counted

pub returns-then-not-put_men-clause-free : goal.returns-then-not-put_men-clause-free
returns-then-not-put_men-clause-free c =
    let here = (goal.at.returns-then-not-put_men-clause-free c).After-index-group in
    let a = at_k here in
    let told = c.in-Some.ensures c.index-group.result.now a.at in
    put_stop c.args.configurations.now.rules.now.groups c.args.number c.loop-k.k c.loop-k.weight
    c.loop-k.rest c.args.p.now c.loop-k.p (so_far here) c.index-group.result.now a c.in-Some.radix told.0
    told.1 (sym c.put_men.ensures.free ∙ c.if-not-put_men.true)

pub nonzero_rem-rest : goal.nonzero_rem-rest
nonzero_rem-rest c =
    let here = (goal.at.nonzero_rem-rest c).After-index-group in
    let told = c.in-Some.ensures c.index-group.result.now (at_k here).at in
    some_after here c.in-Some.radix told.0 told.1

pub loop-k-preserved : goal.loop-k-preserved
loop-k-preserved c =
    let here = (goal.at.loop-k-preserved c).After-index-group in
    let gs = c.args.configurations.now.rules.now.groups in
    let g = c.index-group.result.now in
    let a = at_k here in
    let h = so_far here in
    let kept : IsPut gs c.args.number c.args.p.now (c.loop-k.k + 1) c.match-other_radix.weight
    c.match-other_radix.rest c.match-other_radix.p =
    elim c.match-other_radix.branch [
      | in-Some+else-not-put_men w ↦
          let told = w.in-Some.ensures g a.at in
          let free = sym w.put_men.ensures.free ∙ w.if-not-put_men.false in
          put_more gs c.args.number c.loop-k.k c.loop-k.weight c.loop-k.rest c.args.p.now c.loop-k.p h g a
          w.in-Some.radix told.0 told.1 free c.match-other_radix.weight c.match-other_radix.rest
          c.match-other_radix.p w.weight-is w.rest-is
          (w.p-is ∙ w.put_men.ensures.put w.if-not-put_men.false)
      | in_default w ↦
          put_passed gs c.args.number c.loop-k.k c.loop-k.weight c.loop-k.rest c.args.p.now c.loop-k.p h g a
          (w.in_default.ensures g a.at) c.match-other_radix.weight c.match-other_radix.rest
          c.match-other_radix.p w.weight-is w.rest-is w.p-is
    ] in
    record { weight = kept.weight_is; put = kept.put; free = kept.free }
