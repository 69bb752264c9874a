use Rattle.std.proofs.Common.{◌≡◌, sym, ap, subst, ◌∙◌, ◌+◌, vec_len, ◌++◌, ◌∷◌, [], arith}
use Rattle.std.specs.Int.{w32, from_le_bytes}
use Rattle.std.proofs.lemmas.Grind.{common_steps}
use Rattle.frz_table.proofs.Pushing.{IsPushed, one_pushed, all_pushed}
use Rattle.frz_table.proofs.numbers.push_numbers.Goals as goal

pub loop-number-preserved : goal.loop-number-preserved
loop-number-preserved c =
    let items : c.push.new.self.items ≡ c.loop-number.to.items ++ c.from_le_bytes.result ∷ [] =
    grind (arith, common_steps) in
    let len : vec_len c.push.new.self ≡ vec_len c.loop-number.to + 1 =
    rw c.unwrap.ensures at c.push.ensures.len in (
      subst (λ x. IsPushed c.args.to.now.items x c.args.bytes.now c.in-Some.more.now) (sym items)
          (one_pushed _ _ _ c.loop-number.rest.now c.in-Some.more.now c.from_le_bytes.result
          c.loop-number.invariant.0 (omega (arith, c.in-Some.ensures.cases.2))
          (c.from_le_bytes.ensures ∙ ap (from_le_bytes w32) c.in-Some.ensures.cases.0)
          c.in-Some.ensures.cases.1),
      omega (arith, c.in-Some.ensures.cases.2, len, c.loop-number.invariant.1),
      omega (arith, c.push.ensures.capacity),
    )

pub returns-clause-numbers : goal.returns-clause-numbers
returns-clause-numbers c =
    all_pushed _ _ _ c.loop-number.rest.now c.loop-number.invariant.0 c.in_default.ensures.cases
