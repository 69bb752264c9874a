use Rattle.std.proofs.Common.{arith, inl, inr, subst}
use Rattle.std.proofs.lemmas.Bool.{cases_eq}
use Rattle.std.proofs.lemmas.Option.{slice_get_within}
use Rattle.frz_index.specs.Stepping.{IsShare}
use Rattle.frz_index.proofs.shares.share_of.Goals as goal

pub loop-i-preserved : goal.loop-i-preserved
loop-i-preserved c j adds low h =
    elim (cases_eq j c.loop-i.i) [
      | inl e ↦
          c.in_default.ensures adds
          (subst (λ k. IsShare c.args.groups.now c.args.man c.args.s k adds) e h)
      | inr other ↦ c.loop-i.invariant j adds (omega (arith, low, other)) h
    ]

pub returns : goal.returns
returns c k adds h =
    c.loop-i.invariant k adds
    (let low = slice_get_within c.args.groups.now k h.group h.there in
    omega (arith, low, c.loop-i-test.false, c.loop-i.auto.i-end)) h
