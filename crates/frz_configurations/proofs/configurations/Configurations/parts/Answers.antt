use Rattle.std.proofs.Common.{◌≡◌, ◌-◌, ap, arith, drop, length, subst, ℕ}
use Rattle.frz_sets.specs.Views.{RuleLines}
use Rattle.frz_index.proofs.Lemmas.{numberable}
use Rattle.frz_configurations.specs.Parts.{IsParted}
use Rattle.frz_configurations.proofs.Ready.{IsReady, count_small, from_before, from_end, ready_before}
use Rattle.frz_configurations.proofs.configurations.Configurations.parts.Goals as goal

pub loop-k-init : goal.loop-k-init
loop-k-init c =
    let same = ap length (ap (λ (r : RuleLines). r.groups) c.rules.view_is) in
    record {
      parted = from_end (λ gs. IsParted gs c.args.number c.whole-parts.result)
          c.args.self.now.rules.now.groups c.len-k.result (omega (arith, same, c.len-k.ensures))
          c.whole-parts.ensures;
      within = omega (arith, same, c.len-k.ensures);
    }

pub index-requires : goal.index-requires
index-requires c =
    let same = ap length (ap (λ (r : RuleLines). r.groups) c.rules.view_is) in
    omega (arith, same, c.loop-k.invariant.within)

pub loop-k-preserved : goal.loop-k-preserved
loop-k-preserved c =
    let gs = c.args.self.now.rules.now.groups in
    let at : IsReady gs (c.loop-k.k - 1) c.index.result.now c.index-in-loop-k.result.now =
    ready_before c.args.self.now.rules.now c.rules.inside.groups.items c.args.self.now.radices.items
    c.loop-k.k c.index-in-loop-k.result.now c.index.result.now c.requires
    (ap (λ (r : RuleLines). r.groups) c.rules.view_is) c.args.self.now.known c.loop-k-test.true
    c.loop-k.invariant.within c.index.ensures c.index-in-loop-k.ensures in
    record {
      parted = from_before (λ gs. IsParted gs c.args.number c.taken-parts.result) gs c.loop-k.k
          c.index-in-loop-k.result.now c.index.result.now c.loop-k-test.true at
          (c.taken-parts.ensures (drop c.loop-k.k gs) c.args.number c.loop-k.invariant.parted);
      within = omega (arith, c.loop-k.invariant.within);
    }

pub taken-parts-requires : goal.taken-parts-requires
taken-parts-requires c =
    let gs = c.args.self.now.rules.now.groups in
    let at : IsReady gs (c.loop-k.k - 1) c.index.result.now c.index-in-loop-k.result.now =
    ready_before c.args.self.now.rules.now c.rules.inside.groups.items c.args.self.now.radices.items
    c.loop-k.k c.index-in-loop-k.result.now c.index.result.now c.requires
    (ap (λ (r : RuleLines). r.groups) c.rules.view_is) c.args.self.now.known c.loop-k-test.true
    c.loop-k.invariant.within c.index.ensures c.index-in-loop-k.ensures in
    let few = count_small gs c.loop-k.k c.args.number c.loop-k.parts
    (numberable c.args.self.now.rules.now c.requires) c.loop-k.invariant.parted in
    record {
      radix = at.radix;
      some = at.some;
      fits = at.fits;
      few = few.0;
      small = omega (arith, few.0, few.1);
      kings = at.kings;
    }

pub returns : goal.returns
returns c =
    let end : c.loop-k.k ≡ 0 = omega arith in
    subst (λ (j : ℕ). IsParted (drop j c.args.self.now.rules.now.groups) c.args.number c.loop-k.parts)
    end c.loop-k.invariant.parted
