use Rattle.std.proofs.Common.{◌≡◌, ◌-◌, ap, arith, drop, length, subst, ℕ}
use Rattle.frz_sets.specs.Views.{RuleLines}
use Rattle.frz_index.proofs.Lemmas.{numberable}
use Rattle.frz_configurations.specs.Joined.{IsJoined}
use Rattle.frz_configurations.proofs.Ready.{IsReady, from_before, from_end, joined_small, king_there, ready_before}
use Rattle.frz_configurations.proofs.configurations.Configurations.joined.Goals as goal

pub loop-k-init : goal.loop-k-init
loop-k-init c =
    let same = ap length (ap (λ (r : RuleLines). r.groups) c.rules.view_is) in
    record {
      whole = from_end (λ gs. IsJoined gs c.args.configuration c.args.white c.args.black
          c.nothing-joined.result)
          c.args.self.now.rules.now.groups c.len-k.result (omega (arith, same, c.len-k.ensures))
          (c.nothing-joined.ensures c.args.white c.args.black);
      within = omega (arith, same, c.len-k.ensures);
    }

pub index-requires : goal.index-requires
index-requires c =
    let same = ap length (ap (λ (r : RuleLines). r.groups) c.rules.view_is) in
    omega (arith, same, c.loop-k.invariant.within)

pub loop-k-preserved : goal.loop-k-preserved
loop-k-preserved c =
    let gs = c.args.self.now.rules.now.groups in
    let at : IsReady gs (c.loop-k.k - 1) c.index.result.now c.index-in-loop-k.result.now =
    ready_before c.args.self.now.rules.now c.rules.inside.groups.items c.args.self.now.radices.items
    c.loop-k.k c.index-in-loop-k.result.now c.index.result.now c.requires.sound
    (ap (λ (r : RuleLines). r.groups) c.rules.view_is) c.args.self.now.known c.loop-k-test.true
    c.loop-k.invariant.within c.index.ensures c.index-in-loop-k.ensures in
    record {
      whole = from_before (λ gs. IsJoined gs c.args.configuration c.args.white c.args.black
          c.put-joined.result) gs c.loop-k.k
          c.index-in-loop-k.result.now c.index.result.now c.loop-k-test.true at
          (c.put-joined.ensures (drop c.loop-k.k gs) c.args.configuration c.loop-k.invariant.whole);
      within = omega (arith, c.loop-k.invariant.within);
    }

pub put-joined-requires : goal.put-joined-requires
put-joined-requires c =
    let gs = c.args.self.now.rules.now.groups in
    let at : IsReady gs (c.loop-k.k - 1) c.index.result.now c.index-in-loop-k.result.now =
    ready_before c.args.self.now.rules.now c.rules.inside.groups.items c.args.self.now.radices.items
    c.loop-k.k c.index-in-loop-k.result.now c.index.result.now c.requires.sound
    (ap (λ (r : RuleLines). r.groups) c.rules.view_is) c.args.self.now.known c.loop-k-test.true
    c.loop-k.invariant.within c.index.ensures c.index-in-loop-k.ensures in
    let few = joined_small gs c.loop-k.k c.args.configuration c.args.white c.args.black
    c.loop-k.joined (numberable c.args.self.now.rules.now c.requires.sound) c.loop-k.invariant.whole in
    record {
      radix = at.radix;
      some = at.some;
      fits = at.fits;
      few = few.0;
      small = omega (arith, few.0, few.1);
      kings = at.kings;
      there = king_there gs (c.loop-k.k - 1) c.args.white c.args.black c.index.result.now at.at
          c.requires.white c.requires.black;
    }

pub returns : goal.returns
returns c =
    let end : c.loop-k.k ≡ 0 = omega arith in
    subst (λ (j : ℕ). IsJoined (drop j c.args.self.now.rules.now.groups) c.args.configuration
    c.args.white c.args.black c.loop-k.joined) end c.loop-k.invariant.whole
